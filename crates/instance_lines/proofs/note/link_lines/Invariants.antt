use Rattle.std.proofs.Common.{◌≡◌, map, take, List, ℕ}
use Rattle.ix_base.specs.declared.content.NoteLink.{NoteLink}
use Rattle.instance_lines.specs.Canonical.{line, link_markup}
use Rattle.instance_lines.specs.declared.sort.Keyed.{Keyed}
use Rattle.instance_lines.proofs.note.link_lines.Given as goal

abbrev pub invariant-loop-link : goal.invariant-loop-link
invariant-loop-link l =
    l.keyed.items ≡ map {B = Keyed (List ℕ)} (λ (x : NoteLink). record { key = x.role; item = line (link_markup x) })
    (take l.link-index l.links)
