use Rattle.std.proofs.Common.{◌≡◌}
use Rattle.instance_lines.specs.Keys.{by_key, lasts}
use Rattle.instance_lines.proofs.sort.last_of_each.Given as goal

abbrev pub invariant-loop-one : goal.invariant-loop-one
invariant-loop-one g l = l.kept.items ≡ lasts by_key l.yielded
