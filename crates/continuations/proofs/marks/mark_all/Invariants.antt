use Rattle.std.proofs.Common.{◌≡◌, length}
use Rattle.continuations.specs.Walks.{AreReached}
use Rattle.continuations.proofs.marks.mark_all.Given as goal

-- the walks from the elements before here are done
abbrev pub invariant-loop-from : goal.invariant-loop-from
invariant-loop-from l = record {
  len : length l.marks ≡ length l.nexts;
  marked : AreReached l.nexts l.first l.from l.marks;
}
