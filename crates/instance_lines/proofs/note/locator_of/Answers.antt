use Rattle.std.proofs.Common.{◌∙◌, sym, refl, append-nil}
use Rattle.instance_lines.proofs.note.locator_of.Goals as goal

pub returns : goal.returns
returns c =
    sym (append-nil c.push_leaf.new.out)
    ∙ rw (c.in_ok-push_leaf.ensures, c.in_ok-out.ensures, c.as_str.ensures, c.in_ok-push.ensures.ok, c.in_ok-href.ensures) refl
