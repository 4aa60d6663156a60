use Rattle.std.proofs.Common.{refl, append_assoc}
use Rattle.instance_lines.proofs.lines.add_head.Goals as goal

pub returns : goal.returns
returns c more =
    rw (
      c.in_ok-push-2.ensures.items,
      c.in_ok-push.ensures.items,
      c.in_ok-first.ensures,
      c.in_ok-root.ensures,
      append_assoc,
      append_assoc,
    ) refl
