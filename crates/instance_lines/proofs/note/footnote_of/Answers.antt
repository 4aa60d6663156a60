use Rattle.std.proofs.Common.{◌∙◌, sym, refl, append-nil}
use Rattle.instance_lines.proofs.note.footnote_of.Goals as goal

pub returns : goal.returns
returns c =
    sym (append-nil c.push_close.new.out)
    ∙ rw (c.in_ok-push_close.ensures, c.in_ok-push_plain.ensures, c.in_ok-push_start.ensures, c.in_ok-out.ensures, c.as_str.ensures, c.as_str-2.ensures, c.shown.ensures, c.as_str-3.ensures, c.as_str-4.ensures) refl
