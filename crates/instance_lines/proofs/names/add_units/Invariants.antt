use Rattle.std.proofs.Common.{◌≡◌, ◌++◌, List, drop}
use Rattle.std.specs.Prelude.{flat_map}
use Rattle.ix_base.specs.declared.content.OwnName.{OwnName}
use Rattle.instance_lines.specs.Canonical.{unit_names}
use Rattle.instance_lines.specs.Tables.{values_of}
use Rattle.instance_lines.proofs.names.add_units.Given as goal

abbrev pub invariant-loop-unit : goal.invariant-loop-unit
invariant-loop-unit l =
    (more : List OwnName) → values_of l.names.items ++ (flat_map unit_names (drop l.unit-index l.units) ++ more) ≡ values_of l.initial.names.items ++ (flat_map unit_names l.units ++ more)
