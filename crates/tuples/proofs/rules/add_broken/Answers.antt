use Rattle.ix_base.proofs.FrontLemmas.{grows-start, on-err}
use Rattle.id_table.specs.Model.{asked}
use Rattle.tuples.proofs.Adding.{all-left, no-more, one-more}
use Rattle.tuples.proofs.rules.add_broken.Goals as goal

pub loop-fact-init : goal.loop-fact-init
loop-fact-init c = grows-start _ _ _ (all-left c.args.test c.args.index.now.spots c.args.facts.now c.requires.seen)

pub returns-in_err-add_if_broken-clause-err : goal.returns-in_err-add_if_broken-clause-err
returns-in_err-add_if_broken-clause-err c =
    on-err _ (no-more (asked c.args.index.now) c.args.test c.args.facts.now c.loop-fact.fact-index c.fact-item.result _ _ _ _
    c.loop-fact-test.true c.fact-item.is c.loop-fact.invariant c.in_err-add_if_broken.ensures.err)

pub loop-fact-preserved : goal.loop-fact-preserved
loop-fact-preserved c =
    one-more (asked c.args.index.now) c.args.test c.args.facts.now c.loop-fact.fact-index c.fact-item.result _ _ _ _
    c.loop-fact-test.true c.fact-item.is c.loop-fact.invariant c.in_ok-add_if_broken.ensures.ok
