use Rattle.ix_base.specs.LocatedElements.{located}
use Rattle.continuations.proofs.Inner.{placed-more}
use Rattle.continuations.proofs.Numbering.{located-at}
use Rattle.continuations.proofs.inside.placed_by.Goals as goal

pub loop-number-preserved : goal.loop-number-preserved
loop-number-preserved c =
    placed-more _ _ _ c.loop-number.number (located c.index-spots-number.result.now) c.loop-number.invariant
    (located-at c.args.spots.now c.loop-number.number c.index-spots-number.result c.loop-number-test.true c.index-spots-number.is) c.in_ok-enter.ensures
