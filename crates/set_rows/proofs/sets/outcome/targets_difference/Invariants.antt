use Rattle.std.proofs.Common.{All, take}
use Rattle.set_rows.specs.AsDue.{IsWritten}
use Rattle.set_rows.proofs.sets.outcome.targets_difference.Given as goal

abbrev pub invariant-loop-target : goal.invariant-loop-target
invariant-loop-target l = All (IsWritten l.sink) (take l.target-index l.targets)
