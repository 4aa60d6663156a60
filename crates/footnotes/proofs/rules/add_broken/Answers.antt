use Rattle.ix_base.proofs.FrontLemmas.{grows-start, on-err}
use Rattle.id_table.specs.Model.{asked}
use Rattle.footnotes.proofs.Adding.{all-left, no-more, one-more}
use Rattle.footnotes.proofs.LoopLaws.{seen-at}
use Rattle.footnotes.proofs.rules.add_broken.Goals as goal

pub loop-relationship-init : goal.loop-relationship-init
loop-relationship-init c = grows-start _ _ _ (all-left c.args.test c.args.index.now.spots c.args.relationships.now c.requires.seen)

pub add_if_broken-requires-clause-is : goal.add_if_broken-requires-clause-is
add_if_broken-requires-clause-is c =
    seen-at c.args.relationships.now c.args.index.now.spots c.loop-relationship.relationship-index c.relationship-item.result c.requires.seen c.loop-relationship-test.true c.relationship-item.is

pub returns-in_err-add_if_broken-clause-err : goal.returns-in_err-add_if_broken-clause-err
returns-in_err-add_if_broken-clause-err c =
    on-err _ (no-more (asked c.args.index.now) c.args.test c.args.relationships.now c.loop-relationship.relationship-index c.relationship-item.result _ _ _ _
    c.loop-relationship-test.true c.relationship-item.is c.loop-relationship.invariant c.in_err-add_if_broken.ensures.err)

pub loop-relationship-preserved : goal.loop-relationship-preserved
loop-relationship-preserved c =
    one-more (asked c.args.index.now) c.args.test c.args.relationships.now c.loop-relationship.relationship-index c.relationship-item.result _ _ _ _
    c.loop-relationship-test.true c.relationship-item.is c.loop-relationship.invariant c.in_ok-add_if_broken.ensures.ok
