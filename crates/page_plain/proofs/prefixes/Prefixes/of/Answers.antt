use Rattle.std.proofs.Common.{ℕ, List, ap, map, subst}
use Rattle.std.specs.BTreeMap.{values}
use Rattle.std.specs.Borrow.{Bor}
use Rattle.std.specs.List.{All}
use Rattle.ix_base.specs.Once.{SameMembers}
use Rattle.page_plain.specs.SpaceNumbers.{IsThere, spaces_at, spaces_met}
use Rattle.page_plain.proofs.ListedLaws.{listed}
use Rattle.page_plain.proofs.prefixes.Prefixes.of.Goals as goal

pub invariant_of-result : goal.invariant_of-result
invariant_of-result c =
    let texts = map (λ (s : Bor (List ℕ)). s.now) c.in_ok-spaces.spaces.items in
    let same = ap (map (λ (s : Bor (List ℕ)). s.now)) c.as_slice.ensures.value in
    let numbers = c.in_ok-numbers.numbers in
    listed texts c.args.met.now numbers c.in_ok-spaces.ensures
    (subst (λ l. SameMembers (spaces_at l numbers) (spaces_met c.args.met.now)) same c.in_ok-numbers.ensures.spaces)
    (subst (λ l. All (IsThere l) (values numbers)) same c.in_ok-numbers.ensures.there)
