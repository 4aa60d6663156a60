use Rattle.std.proofs.Common.{◌∙◌, subst, sym}
use Rattle.std.specs.List.Sorted.{IsSortedBy, IsStableBy}
use Rattle.std.proofs.lemmas.Result.{IfOk-weaker}
use Rattle.tuples.specs.FactGroups.{is_earlier}
use Rattle.tuples.specs.OwnedFacts.{is_owned_at}
use Rattle.tuples.proofs.RankLaws.{kept_rising, kept_sorted}
use Rattle.tuples.proofs.groups.groups_of.Goals as goal

pub returns : goal.returns
returns c =
    let up : IsSortedBy is_earlier c.as_slice.result.now = subst (IsSortedBy is_earlier) (sym c.as_slice.ensures.value) c.in_ok-ranks.ensures.sorted in
    let stable : IsStableBy is_earlier c.args.facts.now c.as_slice.result.now
    = subst (IsStableBy is_earlier c.args.facts.now) (sym c.as_slice.ensures.value) c.in_ok-ranks.ensures.stable in
    IfOk-weaker c.entered.result _ _ (λ g h. record {
      members = λ page offset. h page offset ∙ kept_sorted (is_owned_at page offset) c.args.facts.now c.as_slice.result.now up stable;
      rising = λ page offset. subst (IsSortedBy is_earlier) (sym (h page offset)) (kept_rising (is_owned_at page offset) c.as_slice.result.now up);
    }) c.entered.ensures
