use Rattle.std.proofs.Common.{arith}
use Rattle.fact_trace.proofs.WayLaws.{next-is}
use Rattle.fact_trace.proofs.walk.is_next.Goals as goal
use Rattle.fact_trace.proofs.walk.is_next.Goals.{then-loop-next-test+else-offsets-next, else-loop-next-test}

pub returns-then-next-offsets-clause-there : goal.returns-then-next-offsets-clause-there
returns-then-next-offsets-clause-there c = elim c.loop-next-test.branch [
  | then-loop-next-test+else-offsets-next w ↦ next-is c.args.offsets.now c.loop-next.next c.args.at c.if-next-offsets.true w.if-offsets-next.false c.requires.rise c.loop-next.invariant
  | else-loop-next-test w ↦ absurd (omega arith)
]
