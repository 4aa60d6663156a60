use Rattle.std.proofs.Common.{◌∙◌, ap, refl, map}
use Rattle.ix_base.specs.declared.content.NoteLink.{NoteLink}
use Rattle.instance_lines.specs.Arrangement.{arranged_link}
use Rattle.instance_lines.specs.declared.sort.Keyed.{Keyed}
use Rattle.instance_lines.proofs.Sorting.{made_by_keys}
use Rattle.instance_lines.proofs.Steps.{all_moved, map_pushed}
use Rattle.instance_lines.proofs.arranged_note.links_in_order.Goals as goal

pub loop-link-preserved : goal.loop-link-preserved
loop-link-preserved c =
    let f : NoteLink → Keyed NoteLink = λ x. record { key = x.role; item = arranged_link x } in
    map_pushed f c.loop-link.yielded c.in-Some.link _ _ _ c.loop-link.invariant c.in_ok-push.ensures.items (rw (c.in_ok-key.ensures, c.as_str.ensures, c.in_ok-item.ensures) refl)

pub returns : goal.returns
returns c =
    let f : NoteLink → Keyed NoteLink = λ x. record { key = x.role; item = arranged_link x } in
    let xs = c.args.links in
    let all = all_moved _ _ c.next.new.self xs _ (c.into_iter-link-iterator.ensures.into_iter_gives.0 ∙ c.into_vec-link-items.ensures)
    c.loop-link.yielded_by c.in-None.is c.next.ensures.steps in
    c.of-2.ensures ∙ c.in_ok-items.ensures ∙ made_by_keys (λ (x : NoteLink). x.role) arranged_link xs c.loop-link.keyed.items
    (c.loop-link.invariant ∙ ap (map f) all)
