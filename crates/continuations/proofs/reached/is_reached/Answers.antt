use Rattle.std.proofs.Common.{◌∙◌}
use Rattle.ix_base.specs.LocatedElements.{located, offset_of}
use Rattle.continuations.proofs.SeenLaws.{reached-is}
use Rattle.continuations.proofs.reached.is_reached.Goals as goal

pub returns : goal.returns
returns c = c.has_place.ensures ∙ c.requires (located c.args.spot.now).page (offset_of (located c.args.spot.now)) ∙ reached-is c.args.index.now.spots (located c.args.spot.now)
