use Rattle.std.proofs.Common.{refl}
use Rattle.instance_lines.proofs.context.push_parts.Goals as goal

pub returns : goal.returns
returns c more =
    rw (
      c.in_ok-push_around-2.ensures,
      c.in_ok-push_close-2.ensures,
      c.in_ok-push_period.ensures,
      c.in_ok-push_start-2.ensures,
      c.in_ok-push_close.ensures,
      c.in_ok-push_around.ensures,
      c.in_ok-push_element.ensures,
      c.in_ok-push_start.ensures,
      c.as_str.ensures,
      c.as_str-2.ensures,
      c.as_slice.ensures,
      c.as_slice-2.ensures,
    ) refl
