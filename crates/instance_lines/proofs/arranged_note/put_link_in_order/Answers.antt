use Rattle.std.proofs.Common.{refl}
use Rattle.instance_lines.specs.Arrangement.{arranged_link}
use Rattle.instance_lines.proofs.arranged_note.put_link_in_order.Goals as goal

pub returns : goal.returns
unfolding arranged_link
returns c =
    rw (
      c.of.ensures,
      c.in_ok-locs.ensures,
      c.as_slice.ensures,
      c.of-2.ensures,
      c.in_ok-footnotes.ensures,
      c.into_vec.ensures,
      c.replace-footnotes.ensures.value,
      c.in_ok-put_by_keys.ensures,
      c.in_ok-put_once_by_keys.ensures,
    ) refl
