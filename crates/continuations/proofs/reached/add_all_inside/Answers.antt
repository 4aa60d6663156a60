use Rattle.ix_base.proofs.FrontLemmas.{on-err}
use Rattle.ix_base.specs.declared.rule.Rule.TheVariants.{L7}
use Rattle.id_table.specs.Model.{asked}
use Rattle.continuations.proofs.Adding.{no-more, one-more}
use Rattle.continuations.proofs.reached.add_all_inside.Goals as goal

pub returns-in_err-add_if_inside-clause-err : goal.returns-in_err-add_if_inside-clause-err
returns-in_err-add_if_inside-clause-err c =
    on-err _ (no-more (asked c.args.index.now) L7 c.spots-spot-items.result.now c.loop-spot.spot-index c.spot-item.result _ _ _ _
    c.loop-spot-test.true c.spot-item.is c.loop-spot.invariant c.in_err-add_if_inside.ensures.err)

pub loop-spot-preserved : goal.loop-spot-preserved
loop-spot-preserved c =
    one-more (asked c.args.index.now) L7 c.spots-spot-items.result.now c.loop-spot.spot-index c.spot-item.result _ _ _ _
    c.loop-spot-test.true c.spot-item.is c.loop-spot.invariant c.in_ok-add_if_inside.ensures.ok
