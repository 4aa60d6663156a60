use Rattle.std.proofs.Common.{◌≡◌, ◌++◌, rules, sym, subst, string_bytes}
use Rattle.page_constructs.specs.Constructs.{counted}
use Rattle.page_tree.specs.TextPlaces.{IsPlaced}
use Rattle.page_tree.proofs.PlacingLaws.{placed-append}
use Rattle.page_tree.proofs.pending.Pending.append.Goals as goal

pub returns-in-Ok-clause-bytes : goal.returns-in-Ok-clause-bytes
returns-in-Ok-clause-bytes c = λ us h.
    let p = c.args.self.now in
    let pushed : string_bytes c.push_str.new.self ≡ string_bytes p.text ++ c.args.text.now = search rules in
    subst (λ x. IsPlaced x p.places (us ++ counted c.args.offset c.args.text.now)) (sym pushed)
    (placed-append (string_bytes p.text) c.args.text.now p.places c.args.offset us p.even c.requires.next.behind c.requires.next.first h)
