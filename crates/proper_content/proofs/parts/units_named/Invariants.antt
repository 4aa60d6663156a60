use Rattle.std.proofs.Common.{◌≡◌, ◌++◌, drop}
use Rattle.std.specs.Prelude.{flat_map}
use Rattle.instance_lines.specs.Lists.{of_option}
use Rattle.instance_lines.specs.Tables.{values_of}
use Rattle.proper_content.proofs.parts.units_named.Given as goal

abbrev pub invariant-loop-item : goal.invariant-loop-item
invariant-loop-item l = values_of l.ids.items ++ flat_map (λ i. of_option i.unit) (values_of (drop l.item-index l.items)) ≡ flat_map (λ i. of_option i.unit) (values_of l.items)
