use Rattle.std.proofs.Common.{refl, append_assoc, ◌∙◌, ◌++◌}
use Rattle.instance_lines.specs.Canonical.{unit_names}
use Rattle.instance_lines.proofs.Gathered.{gathered}
use Rattle.instance_lines.proofs.Steps.{none_left}
use Rattle.instance_lines.specs.Tables.{values_of}
use Rattle.std.specs.Prelude.{flat_map}
use Rattle.instance_lines.proofs.names.add_units.Goals as goal

pub loop-unit-preserved : goal.loop-unit-preserved
loop-unit-preserved c more =
    gathered unit_names c.args.units.now c.loop-unit.unit-index c.unit-item.result _ _ _ more c.loop-unit-test.true c.unit-item.is
    (λ m. rw (c.in_ok-add_all-2.ensures, c.in_ok-add_all.ensures, c.as_slice.ensures, c.as_slice-in-loop-unit.ensures, append_assoc) refl)
    (c.loop-unit.invariant more)

pub returns : goal.returns
returns c more =
    none_left (λ l. values_of c.loop-unit.names.items ++ (flat_map unit_names l ++ more)) c.args.units.now c.loop-unit.unit-index
    c.loop-unit-test.false
    ∙ c.loop-unit.invariant more
