use Rattle.link_ids.specs.Links.{context_named, unit_named}
use Rattle.target_contents.proofs.GatherLaws.{named-more}
use Rattle.target_contents.proofs.parts.each_named.Goals as goal

pub loop-spot-preserved : goal.loop-spot-preserved
loop-spot-preserved c =
    let more = named-more c.args.spots.now c.loop-spot.spot-index c.spot-item.result c.loop-spot-test.true c.spot-item.is in record {
      contexts = more context_named _ _ c.loop-spot.invariant.contexts c.in_ok-add.ensures.contexts;
      units = more unit_named _ _ c.loop-spot.invariant.units c.in_ok-add.ensures.units;
    }
