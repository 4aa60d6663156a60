use Rattle.std.proofs.Common.{◌∙◌, ◌++◌, List, ℕ, ap, map, subst}
use Rattle.std.specs.List.Sorted.{IsPermutation}
use Rattle.ix_base.specs.declared.content.Context.{Context}
use Rattle.ix_base.specs.declared.content.Footnote.{Footnote}
use Rattle.ix_base.specs.declared.content.Unit.{Unit as UnitContent}
use Rattle.ix_base.specs.Facts.{facts_of}
use Rattle.ix_base.specs.PlainContents.{said_of}
use Rattle.instance_lines.specs.Holdings.{all_notes, fact_ids}
use Rattle.instance_out.specs.Proper.{counted_once}
use Rattle.instance_lines.specs.Tables.{values_of}
use Rattle.proper_content.proofs.IdLaws.{ids_joined, ids_moved}
use Rattle.proper_content.proofs.ids.ids_in.Goals as goal

pub returns : goal.returns
returns c =
    let content = c.args.content.now in
    let contexts : List (List ℕ) = map (λ (x : Context). x.id) content.contexts in
    let units : List (List ℕ) = map (λ (u : UnitContent). u.id) content.units in
    let facts : List (List ℕ) = fact_ids (facts_of content.facts) in
    let notes : List (List ℕ) = map (λ (f : Footnote). f.id) (counted_once (all_notes (said_of content))) in
    let kept = values_of c.in_ok-notes.notes.items in
    let one = c.in_ok-ids.ensures ∙ ap (map (λ (x : Context). x.id)) c.as_slice.ensures in
    let two = c.in_ok-units.ensures ∙ ap (map (λ (u : UnitContent). u.id)) c.as_slice-2.ensures in
    let three = ap values_of c.as_slice-4.ensures.value ∙ c.requires.ids in
    ids_moved contexts units facts notes kept (values_of c.append-2.new.self.items)
    (subst (λ ns. IsPermutation (map (λ (f : Footnote). f.id) (counted_once ns)) kept) (ap values_of c.as_slice-3.ensures.value ∙ c.requires.notes)
    c.in_ok-notes.ensures)
    (ids_joined c.in_ok-ids.ids.items c.in_ok-units.units.items c.as_slice-4.result.now c.in_ok-notes.notes.items c.append.new.self.items
    c.extend_from_slice.new.self.items c.append-2.new.self.items c.in_ok-append.ensures.items c.in_ok-extend_from_slice.ensures.items
    c.in_ok-append-2.ensures.items
    ∙ (λ i. ((one i ++ two i) ++ three i) ++ kept))
