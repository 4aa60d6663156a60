use Rattle.std.proofs.Common.{◌+◌, ◌≤◌, drop, length}
use Rattle.instance_lines.specs.Tables.{Agrees}
use Rattle.instance_lines.proofs.prefix.table_of.Given as goal

abbrev pub invariant-loop-left : goal.invariant-loop-left
invariant-loop-left l = record { within : l.left ≤ length l.spaces; agrees : Agrees l.table (l.left + 1) (drop l.left l.spaces) }

abbrev pub decreases-loop-left : goal.decreases-loop-left
decreases-loop-left l = l.left
