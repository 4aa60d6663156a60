use Rattle.std.proofs.Common.{◌∙◌, sym, refl, append-nil}
use Rattle.instance_lines.proofs.note.arc_of.Goals as goal

pub returns : goal.returns
returns c =
    sym (append-nil c.push_leaf.new.out)
    ∙ rw (c.in_ok-push_leaf.ensures, c.in_ok-out.ensures, c.as_str.ensures, c.as_str-2.ensures, c.as_str-3.ensures, c.as_str-4.ensures) refl
