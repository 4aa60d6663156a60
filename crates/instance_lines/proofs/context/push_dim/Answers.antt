use Rattle.std.proofs.Common.{refl}
use Rattle.instance_lines.proofs.context.push_dim.Goals as goal

pub returns-in-Explicit : goal.returns-in-Explicit
returns-in-Explicit c more =
    rw (c.in_ok-push_element-in-Explicit.ensures, c.in-Explicit.is, c.as_str.ensures, c.in_ok-dimension.ensures, c.as_str-in-Explicit.ensures, c.in_ok-name-in-Explicit.ensures) refl

pub returns : goal.returns
returns c more =
    rw (
      c.in_ok-push_close-in-Typed.ensures,
      c.in_ok-push_element-in-Typed.ensures,
      c.in_ok-push_start-in-Typed.ensures,
      c.in-Typed.is,
      c.as_str.ensures,
      c.in_ok-dimension.ensures,
      c.as_str-in-Typed.ensures,
      c.as_str-in-Typed-2.ensures,
      c.in_ok-name-in-Typed.ensures,
    ) refl
