use Rattle.instance_lines.proofs.LinkLaws.{link-written}
use Rattle.instance_lines.proofs.note.link_line.Goals as goal

pub returns : goal.returns
returns c =
    rw (
      c.in_ok-push.ensures.ok,
      c.in_ok-push_close.ensures,
      c.in_ok-push_link.ensures,
      c.in_ok-push_start.ensures,
      c.in_ok-out.ensures,
      c.as_str.ensures,
    )
    (link-written c.args.link.now)
