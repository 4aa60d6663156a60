use Rattle.std.proofs.Common.{◌∙◌, ap}
use Rattle.std.proofs.lemmas.List.{take_all}
use Rattle.footnotes.proofs.LinkLaws.{facts_along, facts_along-joins, ids_of, step-along}
use Rattle.footnotes.proofs.footnote_links.facts_of.Goals as goal

pub loop-group-preserved : goal.loop-group-preserved
loop-group-preserved c =
    step-along ids_of facts_along-joins c.args.groups.now c.loop-group.group-index c.group-item.result c.loop-group-test.true c.group-item.is _ _
    c.loop-group.invariant c.in_ok-push_facts.ensures

pub returns : goal.returns
returns c = c.loop-group.invariant ∙ ap facts_along (take_all c.loop-group.group-index c.args.groups.now c.loop-group-test.false)
