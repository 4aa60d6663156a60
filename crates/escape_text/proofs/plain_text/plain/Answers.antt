use Rattle.std.proofs.Common.{drop, ◌+◌, map}
use Rattle.ix_base.specs.LocatedElements.{located}
use Rattle.ix_base.specs.Markup.{plain_along}
use Rattle.ix_base.proofs.FrontLemmas.{grows-more, grows-front, on-err}
use Rattle.escape_text.proofs.FrontLaws.{spot-plain}
use Rattle.escape_text.proofs.plain_text.plain.Goals as goal

pub returns-in_err-push_spot-clause-err : goal.returns-in_err-push_spot-clause-err
returns-in_err-push_spot-clause-err c = on-err _
    (grows-front c.args.text.now c.loop-spot.text c.push_spot.new.text _ _ (plain_along (map (λ t. located t.now) (drop (c.loop-spot.spot-index + 1) c.args.chain.now))) _ c.loop-spot.invariant
    (spot-plain c.args.chain.now c.loop-spot.spot-index c.spot-item.result c.loop-spot-test.true c.spot-item.is) c.in_err-push_spot.ensures.err)

pub loop-spot-preserved : goal.loop-spot-preserved
loop-spot-preserved c =
    grows-more c.args.text.now c.loop-spot.text c.push_spot.new.text _ _ (plain_along (map (λ t. located t.now) (drop (c.loop-spot.spot-index + 1) c.args.chain.now))) _ c.loop-spot.invariant
    (spot-plain c.args.chain.now c.loop-spot.spot-index c.spot-item.result c.loop-spot-test.true c.spot-item.is) c.in_ok-push_spot.ensures.ok
