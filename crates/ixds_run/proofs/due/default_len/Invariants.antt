use Rattle.std.proofs.Common.{◌≡◌, drop, map}
use Rattle.ixds_run.specs.DueTables.{ready_lines}
use Rattle.ixds_run.specs.DueOutcomes.{default_len}
use Rattle.ixds_run.proofs.due.default_len.Given as goal

abbrev pub invariant-loop-target : goal.invariant-loop-target
invariant-loop-target l = default_len (map ready_lines l.targets) ≡ default_len (map ready_lines (drop l.target-index l.targets))
