use Rattle.std.proofs.Common.{◌≡◌}
use Rattle.instance_lines.specs.Keys.{keyed_by}
use Rattle.instance_lines.proofs.sort.keyed_by.Given as goal

abbrev pub invariant-loop-item : goal.invariant-loop-item
invariant-loop-item g l = l.keyed.items ≡ keyed_by g.K.KeyOf.key l.yielded
