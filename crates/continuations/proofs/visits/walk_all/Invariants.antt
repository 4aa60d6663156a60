use Rattle.continuations.specs.Visits.{Met}
use Rattle.continuations.proofs.visits.walk_all.Given as goal

-- the walks from the numbers before here are done
abbrev pub invariant-loop-from : goal.invariant-loop-from
invariant-loop-from l = Met l.nexts l.first l.from l.visits l.meets
