use Rattle.std.proofs.Common.{◌≡◌, ◌<◌, ℕ, Some, length}
use Rattle.continuations.proofs.Marking.{Going, unmarked}
use Rattle.continuations.proofs.marks.mark_from.Given as goal

-- what the walk has met is marked
abbrev pub invariant-loop-at : goal.invariant-loop-at
invariant-loop-at l = record {
  going : Going l.nexts l.initial.marks l.from l.marks l.at;
  inside : (j : ℕ) → l.at ≡ Some j → j < length l.nexts;
}

abbrev pub decreases-loop-at : goal.decreases-loop-at
decreases-loop-at l = unmarked l.marks
