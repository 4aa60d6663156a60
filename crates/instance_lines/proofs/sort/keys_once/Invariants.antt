use Rattle.std.proofs.Common.{◌≡◌, map, take}
use Rattle.instance_lines.proofs.sort.keys_once.Given as goal

abbrev pub invariant-loop-item : goal.invariant-loop-item
invariant-loop-item g l = l.keys.items ≡ map g.K.KeyOf.key (take l.item-index l.items)
