use Rattle.std.proofs.Common.{◌≡◌, ◌<◌, ◌∙◌, [], ◌∷◌, ap, length, length-append, arith, rules}
use Rattle.std.proofs.lemmas.List.Elements.{All-from_recursion}
use Rattle.std.specs.Borrow.{Bor}
use Rattle.ix_base.specs.declared.tree.Spot.{Spot}
use Rattle.ix_base.specs.Elements.{place_of}
use Rattle.ix_base.specs.Spots.{IsOnOnePage}
use Rattle.scopes.specs.Model.{Kept}
use Rattle.page_rows.proofs.markups.text_on.Goals as goal

pub text_of-requires-clause-bases : goal.text_of-requires-clause-bases
text_of-requires-clause-bases c =
    let first : (place_of c.args.spot.now).page ≡ 0 = search rules in
    let count = ap (λ (b : Kept). length b.pages) c.in_ok-add_page.ensures.ok ∙ length-append c.new-bases.result.pages (_ ∷ []) in
    let some : 0 < length c.add_page.new.self.pages = omega (arith, count) in
    All-from_recursion (λ (s : Bor Spot). (place_of s.now).page < length c.add_page.new.self.pages) (c.args.spot ∷ []) (omega (arith, first, some), tt)

pub text_of-requires-clause-pages : goal.text_of-requires-clause-pages
text_of-requires-clause-pages c = All-from_recursion (λ (s : Bor Spot). IsOnOnePage s.now) (c.args.spot ∷ []) (search rules, tt)
