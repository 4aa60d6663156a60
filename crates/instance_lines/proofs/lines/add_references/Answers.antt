use Rattle.std.proofs.Common.{refl}
use Rattle.instance_lines.proofs.lines.add_references.Goals as goal

pub returns : goal.returns
returns c more =
    rw (
      c.in_ok-add-4.ensures,
      c.in_ok-add-3.ensures,
      c.in_ok-add-2.ensures,
      c.in_ok-add.ensures,
      c.in_ok-schemas.ensures,
      c.in_ok-linkbases.ensures,
      c.in_ok-roles.ensures,
      c.in_ok-arcroles.ensures,
      c.as_slice.ensures,
      c.as_slice-2.ensures,
      c.as_slice-3.ensures,
      c.as_slice-4.ensures,
    ) refl
