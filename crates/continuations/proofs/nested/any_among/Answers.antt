use Rattle.std.proofs.Common.{◌∙◌, sym}
use Rattle.ix_base.specs.LinkRules.{stands_inside}
use Rattle.ix_base.specs.LocatedElements.{located}
use Rattle.id_table.specs.Tables.{all_located}
use Rattle.continuations.proofs.Inner.{in-any}
use Rattle.continuations.proofs.Nesting.{none-more}
use Rattle.continuations.proofs.Numbering.{in-got, located-at}
use Rattle.continuations.proofs.nested.any_among.Goals as goal

pub returns-then-stands_among : goal.returns-then-stands_among
returns-then-stands_among c =
    let s = c.spot-item.result in
    let xs = all_located c.args.spots.now in
    sym (in-any (stands_inside xs) xs (located s.now) (in-got xs c.loop-spot.spot-index (located s.now) (located-at c.args.spots.now c.loop-spot.spot-index s c.loop-spot-test.true c.spot-item.is))
    (sym c.stands_among.ensures ∙ c.if-stands_among.true))

pub loop-spot-preserved : goal.loop-spot-preserved
loop-spot-preserved c =
    none-more (stands_inside (all_located c.args.spots.now)) c.args.spots.now c.loop-spot.spot-index c.spot-item.result c.loop-spot-test.true c.spot-item.is c.loop-spot.invariant
    (sym c.stands_among.ensures ∙ c.if-stands_among.false)
