use Rattle.std.proofs.Common.{◌≡◌, map}
use Rattle.ixds_run.specs.DueOutcomes.{instance_lines}
use Rattle.ixds_run.specs.DueTables.{ready_lines}
use Rattle.ixds_run.proofs.due.prepared.Given as goal

abbrev pub invariant-loop-target : goal.invariant-loop-target
invariant-loop-target l = map ready_lines l.ready.items ≡ map instance_lines l.yielded
