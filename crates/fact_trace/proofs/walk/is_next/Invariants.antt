use Rattle.std.proofs.Common.{◌-◌, length}
use Rattle.fact_trace.specs.Walks.{IsFrontPassed}
use Rattle.fact_trace.proofs.walk.is_next.Given as goal

abbrev pub invariant-loop-next : goal.invariant-loop-next
invariant-loop-next l = IsFrontPassed l.offsets l.next l.at

abbrev pub decreases-loop-next : goal.decreases-loop-next
decreases-loop-next l = length l.offsets - l.next
