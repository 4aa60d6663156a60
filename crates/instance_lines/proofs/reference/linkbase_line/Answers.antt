use Rattle.std.proofs.Common.{refl}
use Rattle.instance_lines.proofs.reference.linkbase_line.Goals as goal

pub returns : goal.returns
returns c = rw (c.in_ok-line.ensures, c.as_str.ensures, c.shown.ensures) refl
