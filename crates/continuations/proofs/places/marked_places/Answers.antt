use Rattle.std.proofs.Common.{refl}
use Rattle.ix_base.specs.LocatedElements.{located}
use Rattle.continuations.proofs.Numbering.{located-at}
use Rattle.continuations.proofs.Standing.{held-more}
use Rattle.continuations.proofs.places.marked_places.Goals as goal

pub loop-number-preserved : goal.loop-number-preserved
loop-number-preserved c =
    held-more _ _ _ c.args.marks.now c.loop-number.number (located c.index-spots-number.result.now) _ c.loop-number.invariant
    (located-at c.args.spots.now c.loop-number.number c.index-spots-number.result c.loop-number-test.true c.index-spots-number.is) refl c.in_ok-keep_if.ensures
