use Rattle.std.proofs.Common.{◌∙◌, ap, arith, length, List, Option}
use Rattle.continuations.specs.declared.visits.Visit.{Visit}
use Rattle.continuations.specs.Visits.{visit_at}
use Rattle.continuations.proofs.VisitLaws.{met-none, met-same}
use Rattle.continuations.proofs.Marking.{written-back}
use Rattle.continuations.proofs.visits.walks_of.Goals as goal

pub walk_all-requires-clause-none : goal.walk_all-requires-clause-none
walk_all-requires-clause-none c =
    met-none c.args.nexts.now c.args.first c.as_mut_slice.result.now c.as_mut_slice-2.result.now
    (λ k. ap (λ (bs : List (Option Visit)). visit_at bs k) c.as_mut_slice.ensures.value ∙ c.in_ok-visits.ensures.none k)

pub returns-clause-met : goal.returns-clause-met
returns-clause-met c =
    met-same c.args.nexts.now c.args.first (length c.args.nexts.now) c.walk_all.new.visits _ c.walk_all.new.meets _
    (written-back c.in_ok-visits.visits.len c.walk_all.new.visits c.in_ok-visits.visits.items (c.walk_all.auto.visits ∙ c.as_mut_slice.ensures.len))
    (written-back c.in_ok-meets.meets.len c.walk_all.new.meets c.in_ok-meets.meets.items (c.walk_all.auto.meets ∙ c.as_mut_slice-2.ensures.len))
    c.walk_all.ensures

pub returns-clause-len : goal.returns-clause-len
returns-clause-len c =
    omega (
      arith,
      ap length (written-back c.in_ok-meets.meets.len c.walk_all.new.meets c.in_ok-meets.meets.items (c.walk_all.auto.meets ∙ c.as_mut_slice-2.ensures.len)),
      c.walk_all.auto.meets,
      c.as_mut_slice-2.ensures.len,
      c.in_ok-meets.ensures.len,
    )
