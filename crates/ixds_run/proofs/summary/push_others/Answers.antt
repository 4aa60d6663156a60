use Rattle.std.proofs.Common.{◌∙◌, ◌++◌, ap, codes, length}
use Rattle.page_verdicts.specs.Summary.{note_ids}
use Rattle.page_verdicts.specs.Texts.{count}
use Rattle.ixds_run.proofs.SummaryLaws.{three_added}
use Rattle.ixds_run.proofs.summary.push_others.Goals as goal

pub returns : goal.returns
returns c =
    let notes = c.in_ok-notes.ensures ∙ ap (λ links. length (note_ids links)) c.as_slice.ensures in
    three_added _ _ _ _ _ _ _ c.in_ok-push_count.ensures c.in_ok-push_count-2.ensures c.in_ok-push_count-3.ensures
    ∙ (λ i. c.args.text.now
    ++ (count (length (c.as_slice-contexts.ensures i)) (codes " contexts, ")
    ++ (count (length (c.as_slice-units.ensures i)) (codes " units, ") ++ count (notes i) (codes " footnotes\n"))))
