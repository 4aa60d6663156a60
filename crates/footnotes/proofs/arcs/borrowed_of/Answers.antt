use Rattle.std.proofs.Common.{◌∙◌, ap, map}
use Rattle.std.proofs.lemmas.List.{take_all}
use Rattle.footnotes.specs.ArcGroups.{arcs_along}
use Rattle.footnotes.specs.FootnoteLinks.{Between}
use Rattle.footnotes.proofs.LinkLaws.{arc_list_along-joins, step-along}
use Rattle.footnotes.proofs.arcs.borrowed_of.Goals as goal

pub loop-group-preserved : goal.loop-group-preserved
loop-group-preserved c =
    step-along (map (λ (x : Between). x.arc)) arc_list_along-joins c.args.groups.now c.loop-group.group-index c.group-item.result c.loop-group-test.true c.group-item.is _ _
    c.loop-group.invariant c.in_ok-push_arcs.ensures

pub returns : goal.returns
returns c = c.loop-group.invariant ∙ ap (λ gs. map (λ (x : Between). x.arc) (arcs_along gs)) (take_all c.loop-group.group-index c.args.groups.now c.loop-group-test.false)
