use Rattle.ix_base.specs.LocatedElements.{located}
use Rattle.footnotes.specs.ArcLinks.{texts_of}
use Rattle.footnotes.proofs.LinkLaws.{facts_to, facts_to-joins, step-from, two-facts}
use Rattle.footnotes.proofs.footnote_links.push_facts.Goals as goal

pub loop-to-preserved : goal.loop-to-preserved
loop-to-preserved c =
    step-from (facts_to c.args.group.now) (facts_to-joins c.args.group.now) c.args.group.now.ends.now c.loop-to.to-index c.to-item.result c.loop-to-test.true c.to-item.is _ _ _
    c.loop-to.invariant
    (two-facts (located c.args.group.now.from.now) (located c.to-item.result.now) (texts_of c.loop-to.ids.items) _ _ c.in_ok-push_if_fact.ensures c.in_ok-push_if_fact-2.ensures)
