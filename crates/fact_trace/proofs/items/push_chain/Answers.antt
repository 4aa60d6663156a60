use Rattle.fact_trace.specs.Model.{IsText, sources_of}
use Rattle.fact_trace.specs.Spans.{lying_at}
use Rattle.fact_trace.proofs.TextLaws.{item-text}
use Rattle.fact_trace.proofs.items.push_chain.Goals as goal

pub push_spot-requires : goal.push_spot-requires
push_spot-requires c =
    item-text (λ e. IsText (sources_of c.args.pages.now) (lying_at e)) c.args.chain.now c.loop-spot.spot-index c.spot-item.result c.loop-spot-test.true c.spot-item.is c.requires
