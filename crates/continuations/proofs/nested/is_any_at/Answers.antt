use Rattle.std.proofs.Common.{◌∙◌, sym}
use Rattle.ix_base.specs.LinkRules.{is_at}
use Rattle.ix_base.specs.LocatedElements.{located}
use Rattle.id_table.specs.Tables.{all_located}
use Rattle.continuations.proofs.Inner.{in-any}
use Rattle.continuations.proofs.Nesting.{none-more}
use Rattle.continuations.proofs.Numbering.{in-got, located-at}
use Rattle.continuations.proofs.nested.is_any_at.Goals as goal

pub returns-then-stands_at : goal.returns-then-stands_at
returns-then-stands_at c =
    let s = c.spot-item.result in
    let xs = all_located c.args.spots.now in
    sym (in-any (is_at c.args.page c.args.offset) xs (located s.now)
    (in-got xs c.loop-spot.spot-index (located s.now) (located-at c.args.spots.now c.loop-spot.spot-index s c.loop-spot-test.true c.spot-item.is))
    (sym c.stands_at.ensures ∙ c.if-stands_at.true))

pub loop-spot-preserved : goal.loop-spot-preserved
loop-spot-preserved c =
    none-more (is_at c.args.page c.args.offset) c.args.spots.now c.loop-spot.spot-index c.spot-item.result c.loop-spot-test.true c.spot-item.is c.loop-spot.invariant
    (sym c.stands_at.ensures ∙ c.if-stands_at.false)
