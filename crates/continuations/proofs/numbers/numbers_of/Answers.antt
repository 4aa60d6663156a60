use Rattle.ix_base.specs.LocatedElements.{located}
use Rattle.continuations.proofs.Numbering.{numbered-more, element-at}
use Rattle.continuations.proofs.numbers.numbers_of.Goals as goal

pub loop-number-preserved : goal.loop-number-preserved
loop-number-preserved c =
    let e = c.index-elements-number.result in
    numbered-more _ _ _ _ (located e.spot.now) c.loop-number.invariant
    (element-at c.args.elements.now c.loop-number.number e c.loop-number-test.true c.index-elements-number.is) c.in_ok-enter_number.ensures
