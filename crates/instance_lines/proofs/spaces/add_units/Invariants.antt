use Rattle.std.proofs.Common.{◌≡◌, ◌++◌, List, drop}
use Rattle.std.specs.Prelude.{flat_map}
use Rattle.ix_base.specs.declared.content.OwnName.{OwnName}
use Rattle.ix_base.specs.Once.{in_order}
use Rattle.ix_base.specs.SortedLists.{text_cmp}
use Rattle.instance_lines.specs.Canonical.{unit_names}
use Rattle.instance_lines.specs.Tables.{own_spaces, values_of}
use Rattle.instance_lines.proofs.spaces.add_units.Given as goal

abbrev pub invariant-loop-unit : goal.invariant-loop-unit
invariant-loop-unit l =
    (more : List OwnName) → in_order text_cmp (values_of l.spaces.items ++ own_spaces (flat_map unit_names (drop l.unit-index l.units) ++ more))
    ≡ in_order text_cmp (values_of l.initial.spaces.items ++ own_spaces (flat_map unit_names l.units ++ more))
