use Rattle.std.proofs.Common.{◌≡◌, map, take}
use Rattle.instance_lines.specs.Tables.{values_of}
use Rattle.proper_content.proofs.parts.contexts_named.Given as goal

abbrev pub invariant-loop-item : goal.invariant-loop-item
invariant-loop-item l = values_of l.ids.items ≡ map (λ i. i.context) (values_of (take l.item-index l.items))
