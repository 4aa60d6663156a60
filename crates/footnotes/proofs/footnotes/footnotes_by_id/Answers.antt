use Rattle.std.proofs.Common.{◌∙◌, ap, option_map}
use Rattle.std.proofs.lemmas.Result.{IfOk-weaker}
use Rattle.std.specs.Borrow.{Bor}
use Rattle.ix_base.specs.declared.tree.Spot.{Spot}
use Rattle.ix_base.specs.LocatedElements.{base_in, located}
use Rattle.id_table.specs.Tables.{all_located}
use Rattle.footnotes.specs.ArcLinks.{kept_at, note_in, texts_of}
use Rattle.footnotes.proofs.CalledLaws.{filter_map-called}
use Rattle.footnotes.proofs.footnotes.footnotes_by_id.Goals as goal

pub returns : goal.returns
returns c =
    IfOk-weaker c.footnotes_at.result _ _
    (λ l e. e
    ∙ filter_map-called (note_in (base_in c.args.bases.now.pages) c.args.chains.now)
    (λ id. option_map (λ (s : Bor Spot). located s.now) (kept_at c.in_ok-called.called id)) (all_located c.args.notes.now) _ _
    c.in_ok-called.ensures (ap texts_of c.as_slice.ensures.value ∙ c.in_ok-ids.ensures))
    c.footnotes_at.ensures
