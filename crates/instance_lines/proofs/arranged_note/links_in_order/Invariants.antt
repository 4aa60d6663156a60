use Rattle.std.proofs.Common.{◌≡◌, map}
use Rattle.ix_base.specs.declared.content.NoteLink.{NoteLink}
use Rattle.instance_lines.specs.Arrangement.{arranged_link}
use Rattle.instance_lines.specs.declared.sort.Keyed.{Keyed}
use Rattle.instance_lines.proofs.arranged_note.links_in_order.Given as goal

abbrev pub invariant-loop-link : goal.invariant-loop-link
invariant-loop-link l =
    l.keyed.items ≡ map {B = Keyed NoteLink} (λ (x : NoteLink). record { key = x.role; item = arranged_link x }) l.yielded
