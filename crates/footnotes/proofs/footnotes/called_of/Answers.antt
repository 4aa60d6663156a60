use Rattle.footnotes.specs.ArcLinks.{kept_at}
use Rattle.footnotes.proofs.CalledLaws.{called-more}
use Rattle.footnotes.proofs.footnotes.called_of.Goals as goal

pub loop-spot-preserved : goal.loop-spot-preserved
loop-spot-preserved c = λ id.
    called-more id c.label_of.result.now c.args.spots.now c.loop-spot.spot-index c.spot-item.result (kept_at c.loop-spot.called id) (kept_at c.insert.new.self id)
    c.loop-spot-test.true c.spot-item.is c.label_of.ensures (c.in_ok-insert.ensures.ok id) (c.loop-spot.invariant id)
