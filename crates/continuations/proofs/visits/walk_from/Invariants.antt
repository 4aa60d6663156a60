use Rattle.std.proofs.Common.{◌≡◌, ◌<◌, ◌≤◌, ◌+◌, ℕ, Some, length}
use Rattle.continuations.specs.Visits.{Walking}
use Rattle.continuations.proofs.VisitLaws.{unmet}
use Rattle.continuations.proofs.visits.walk_from.Given as goal

-- the walk has visited what it has met
abbrev pub invariant-loop-at : goal.invariant-loop-at
invariant-loop-at l = record {
  walking : Walking l.nexts l.from l.initial.visits l.visits l.step l.at;
  inside : (j : ℕ) → l.at ≡ Some j → j < length l.nexts;
  small : l.step + unmet l.visits ≤ length l.nexts;
}

abbrev pub decreases-loop-at : goal.decreases-loop-at
decreases-loop-at l = unmet l.visits
