use Rattle.std.proofs.Common.{◌≡◌, rules, arith, length, string_bytes, refl}
use Rattle.page_tree.proofs.PlacingLaws.{placed-skip}
use Rattle.page_tree.specs.declared.pending.Places.{Places}
use Rattle.page_tree.proofs.pending.Pending.skip_to.Goals as goal

pub returns-clause-bytes : goal.returns-clause-bytes
returns-clause-bytes c = λ us h.
    let p = c.args.self.now in
    let q : Places = record { start = c.first_offset-start.result; even = c.len-even.result; base = c.args.offset } in
    let l : c.len-even.result ≡ length (string_bytes p.text) = search rules in
    placed-skip (string_bytes p.text) p.places q us c.args.offset l refl (λ some. c.first_offset-start.ensures.some (omega arith)) h
