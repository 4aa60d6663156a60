use Rattle.std.specs.Prelude.{IfSome}
use Rattle.std.proofs.Common.{subst}
use Rattle.ix_base.specs.Elements.{place_of}
use Rattle.ix_base.specs.Spots.{IsOnOnePage}
use Rattle.tuples.specs.declared.fact.Owner.{Owner}
use Rattle.tuples.proofs.AboveLaws.{above-on, around-is, none-around}
use Rattle.tuples.proofs.members.tuple_around.Goals as goal

pub returns-in-Some-clause-located : goal.returns-in-Some-clause-located
returns-in-Some-clause-located c = λ on.
    let s = c.args.spot.now in
    around-is (place_of s).page s c.nearest_tuple.result c.in-Some.owner c.in-Some.is c.nearest_tuple.ensures.owner (c.nearest_tuple.ensures.located (above-on (place_of s).page s on))

pub returns-in-Some-clause-page : goal.returns-in-Some-clause-page
returns-in-Some-clause-page c = λ on.
    let s = c.args.spot.now in
    subst (λ o. IfSome o (λ (x : Owner). IsOnOnePage x.spot.now)) c.in-Some.is (c.nearest_tuple.ensures.page (above-on (place_of s).page s on))

pub returns-in-None-clause-located : goal.returns-in-None-clause-located
returns-in-None-clause-located c = λ on.
    let s = c.args.spot.now in
    none-around (place_of s).page s c.nearest_tuple.result c.in-None.is c.nearest_tuple.ensures.owner
