use Rattle.std.proofs.Common.{◌∙◌, ap, map, subst}
use Rattle.std.specs.List.Sorted.{IsPermutation}
use Rattle.ix_base.specs.declared.content.Footnote.{Footnote}
use Rattle.instance_out.specs.Proper.{counted_once}
use Rattle.instance_lines.specs.Tables.{values_of}
use Rattle.proper_content.specs.Notes.{note_seen}
use Rattle.proper_content.proofs.IdLaws.{note_ids_moved}
use Rattle.proper_content.proofs.ids.note_ids.Goals as goal

pub returns : goal.returns
returns c =
    let kept = map note_seen c.keep_once.new.notes.items in
    note_ids_moved (values_of c.args.notes.now) kept _ (subst (λ ns. IsPermutation (counted_once ns) kept) c.in_ok-keys.ensures c.keep_once.ensures)
    (c.in_ok-ids.ensures ∙ ap (λ ks. map (λ (f : Footnote). f.id) (map note_seen ks)) c.as_slice.ensures.value)
