use Rattle.std.proofs.Common.{◌∙◌, sym, take}
use Rattle.ix_base.specs.LocatedElements.{is_fact, located}
use Rattle.id_table.specs.Tables.{all_located}
use Rattle.id_table.proofs.RowLemmas.{located-take}
use Rattle.footnotes.proofs.LoopLaws.{found-at, none-more}
use Rattle.footnotes.proofs.rules.first_fact.Goals as goal

pub returns-then-is_fact : goal.returns-then-is_fact
returns-then-is_fact c =
    sym (found-at is_fact c.args.spots.now c.loop-spot.spot-index c.spot-item.result c.loop-spot-test.true c.spot-item.is c.loop-spot.invariant
    (sym c.is_fact.ensures ∙ c.if-is_fact.true))

pub loop-spot-preserved : goal.loop-spot-preserved
loop-spot-preserved c =
    none-more is_fact (all_located (take c.loop-spot.spot-index c.args.spots.now)) _ (located c.spot-item.result.now)
    (located-take c.args.spots.now c.loop-spot.spot-index c.spot-item.result c.loop-spot-test.true c.spot-item.is) c.loop-spot.invariant
    (sym c.is_fact.ensures ∙ c.if-is_fact.false)
