use Rattle.std.proofs.Common.{refl}
use Rattle.instance_lines.proofs.lines.add_facts.Goals as goal

pub returns : goal.returns
returns c more =
    rw (
      c.in_ok-add-4.ensures,
      c.in_ok-add-3.ensures,
      c.in_ok-add-2.ensures,
      c.in_ok-add.ensures,
      c.in_ok-contexts.ensures,
      c.in_ok-units.ensures,
      c.requires.facts,
      c.in_ok-notes.ensures,
      c.as_slice.ensures,
      c.as_slice-2.ensures,
      c.as_slice-3.ensures,
    ) refl
