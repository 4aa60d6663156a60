use Rattle.std.proofs.Common.{refl}
use Rattle.page_plain.proofs.PlaceLaws.{place-found, place-missed}
use Rattle.page_plain.proofs.prefixes.number_in.Goals as goal

pub unreachable-requires : goal.unreachable-requires
unreachable-requires c = place-missed c.args.space.now c.args.spaces.now _ refl c.requires.ordered c.in-Err.field-0 c.in-Err.ensures.bound c.in-Err.ensures.position c.requires.there

pub returns-clause-is : goal.returns-clause-is
returns-clause-is c = place-found c.args.space.now c.args.spaces.now _ refl c.requires.ordered c.in-Ok.place c.args.space c.in-Ok.ensures.bound (c.in-Ok.ensures.ok c.args.space)
