use Rattle.std.proofs.Common.{◌≡◌, ◌∙◌, None, ap, map, subst}
use Rattle.std.specs.List.{filter_map}
use Rattle.std.specs.Result.{IfOk}
use Rattle.ix_base.specs.LocatedElements.{base_in}
use Rattle.ix_base.specs.Once.{in_order}
use Rattle.ix_base.specs.SortedLists.{text_cmp}
use Rattle.id_table.specs.Tables.{all_located}
use Rattle.footnotes.specs.FootnoteLinks.{label}
use Rattle.footnotes.specs.ArcLinks.{last_called, note_in}
use Rattle.footnotes.proofs.footnotes.footnotes_of.Goals as goal

pub returns : goal.returns
returns c =
    subst
    (λ ns. IfOk c.footnotes_by_id.result (λ l. l ≡ map (note_in (base_in c.args.bases.now.pages) c.args.chains.now)
    (filter_map (λ id. last_called id ns None) (in_order text_cmp (map label ns)))))
    (ap all_located c.as_slice.ensures.value ∙ c.in_ok-notes.ensures)
    c.footnotes_by_id.ensures
