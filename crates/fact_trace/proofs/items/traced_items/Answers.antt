use Rattle.std.proofs.Common.{Contains}
use Rattle.fact_trace.specs.Model.{sources_of}
use Rattle.fact_trace.specs.Spans.{elements}
use Rattle.fact_trace.proofs.TextLaws.{item-text}
use Rattle.fact_trace.proofs.items.traced_items.Goals as goal

pub traced_of-requires-clause-there : goal.traced_of-requires-clause-there
traced_of-requires-clause-there c =
    item-text (Contains (elements (sources_of c.args.pages.now))) c.args.spots.now c.loop-spot.spot-index c.spot-item.result c.loop-spot-test.true c.spot-item.is c.requires.there
