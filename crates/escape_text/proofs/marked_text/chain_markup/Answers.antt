use Rattle.std.proofs.Common.{Some}
use Rattle.ix_base.specs.LocatedElements.{base_in}
use Rattle.escape_text.proofs.MarkupSteps.{along-step}
use Rattle.escape_text.proofs.marked_text.chain_markup.Goals as goal

pub loop-spot-preserved : goal.loop-spot-preserved
loop-spot-preserved c = along-step (λ e. Some (base_in c.args.bases.now.pages e)) c.args.start_ns.now c.args.chain.now c.loop-spot.spot-index c.spot-item.result
    c.loop-spot.text c.push_spot.new.text _ c.loop-spot-test.true c.spot-item.is c.in_ok-push_spot.ensures c.loop-spot.invariant
