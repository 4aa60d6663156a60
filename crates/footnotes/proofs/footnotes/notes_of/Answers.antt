use Rattle.std.proofs.Common.{◌∙◌, ap}
use Rattle.std.proofs.lemmas.List.{take_all}
use Rattle.footnotes.specs.ArcGroups.{arcs_along}
use Rattle.footnotes.specs.ArcLinks.{end_footnotes}
use Rattle.footnotes.proofs.LinkLaws.{notes_along-joins, step-along}
use Rattle.footnotes.proofs.footnotes.notes_of.Goals as goal

pub loop-group-preserved : goal.loop-group-preserved
loop-group-preserved c =
    step-along end_footnotes notes_along-joins c.args.groups.now c.loop-group.group-index c.group-item.result c.loop-group-test.true c.group-item.is _ _
    c.loop-group.invariant c.in_ok-push_notes.ensures

pub returns : goal.returns
returns c = c.loop-group.invariant ∙ ap (λ gs. end_footnotes (arcs_along gs)) (take_all c.loop-group.group-index c.args.groups.now c.loop-group-test.false)
