use Rattle.ix_base.proofs.FrontLemmas.{on-err}
use Rattle.ix_base.specs.declared.rule.Rule.TheVariants.{L5}
use Rattle.id_table.specs.Model.{asked}
use Rattle.continuations.proofs.Adding.{no-more, one-more}
use Rattle.continuations.proofs.named.add_all_named_twice.Goals as goal

pub returns-in_err-add_if_named_twice-clause-err : goal.returns-in_err-add_if_named_twice-clause-err
returns-in_err-add_if_named_twice-clause-err c =
    on-err _ (no-more (asked c.args.index.now) L5 c.spots-spot-items.result.now c.loop-spot.spot-index c.spot-item.result _ _ _ _
    c.loop-spot-test.true c.spot-item.is c.loop-spot.invariant c.in_err-add_if_named_twice.ensures.err)

pub loop-spot-preserved : goal.loop-spot-preserved
loop-spot-preserved c =
    one-more (asked c.args.index.now) L5 c.spots-spot-items.result.now c.loop-spot.spot-index c.spot-item.result _ _ _ _
    c.loop-spot-test.true c.spot-item.is c.loop-spot.invariant c.in_ok-add_if_named_twice.ensures.ok
