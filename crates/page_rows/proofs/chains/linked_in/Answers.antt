use Rattle.std.proofs.Common.{◌≡◌, ◌∙◌, ◌<◌, ℕ, true, List, [], ◌++◌, ap, length, subst, sym, rules}
use Rattle.std.specs.Prelude.{All, nat_lt}
use Rattle.std.specs.Borrow.{Bor}
use Rattle.std.specs.List.{list_all}
use Rattle.ix_base.specs.declared.breach.Found.{Found}
use Rattle.ix_base.specs.declared.rule.Rule.TheVariants.{L4, L5, L6, L7}
use Rattle.ix_base.specs.declared.tree.Spot.{Spot}
use Rattle.ix_base.specs.LinkRules.{breaking}
use Rattle.ix_base.specs.LocatedElements.{located}
use Rattle.page_rows.proofs.FoundRows.{breaking-within, all-within, both-within}
use Rattle.page_rows.proofs.chains.linked_in.Goals as goal

pub lines_of-requires : goal.lines_of-requires
lines_of-requires c =
    let count = length c.args.names.now in
    let P : List Found → Type 0 = λ fs. All (λ f. f.place.page < count) fs in
    let es = c.args.index.now.spots in
    let is : c.are_within.result ≡ true = search rules in
    let within = subst (All (λ e. e.page < count)) c.spots.ensures.elements (all-within count c.spots.result.now (sym c.are_within.ensures ∙ is)) in
    let found : c.add_linked.new.breaches ≡ [] ++ breaking L4 es ++ breaking L5 es ++ breaking L6 es ++ breaking L7 es = c.in_ok-add_linked.ensures ∙ ap (λ (b : List Found). b ++ breaking L4 es ++ breaking L5 es ++ breaking L6 es ++ breaking L7 es) c.new-breaches.ensures in
    subst P (sym found)
    (both-within count ([] ++ breaking L4 es ++ breaking L5 es ++ breaking L6 es) (breaking L7 es)
    (both-within count ([] ++ breaking L4 es ++ breaking L5 es) (breaking L6 es)
    (both-within count ([] ++ breaking L4 es) (breaking L5 es) (breaking-within L4 count es within) (breaking-within L5 count es within)) (breaking-within L6 count es within)) (breaking-within L7 count es within))
