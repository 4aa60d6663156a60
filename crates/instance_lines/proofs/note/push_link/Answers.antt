use Rattle.std.proofs.Common.{refl}
use Rattle.instance_lines.proofs.note.push_link.Goals as goal

pub returns : goal.returns
returns c more =
    rw (
      c.in_ok-push_texts-3.ensures,
      c.in_ok-push_texts-2.ensures,
      c.in_ok-push_texts.ensures,
      c.in_ok-locators.ensures,
      c.in_ok-footnotes.ensures,
      c.in_ok-arcs.ensures,
      c.as_slice.ensures,
      c.as_slice-2.ensures,
      c.as_slice-3.ensures,
    ) refl
