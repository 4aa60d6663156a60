use Rattle.std.proofs.Common.{◌≡◌, map}
use Rattle.instance_lines.proofs.sort.items_of.Given as goal

abbrev pub invariant-loop-one : goal.invariant-loop-one
invariant-loop-one g l = l.items.items ≡ map (λ k. k.item) l.yielded
