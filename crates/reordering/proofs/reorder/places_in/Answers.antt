use Rattle.std.proofs.Common.{◌∙◌, ◌<◌, arith, length, length-set}
use Rattle.reordering.proofs.Placing.{all-places, numbers-within, places-more}
use Rattle.reordering.proofs.reorder.places_in.Goals as goal

pub index_mut-requires : goal.index_mut-requires
index_mut-requires c =
    let below : c.loop-place.place < length c.args.order.now = omega arith in
    omega (arith, numbers-within c.args.order.now c.requires c.loop-place.place 0 below)

pub loop-place-preserved : goal.loop-place-preserved
loop-place-preserved c =
    let was = c.loop-place.invariant in
    let below : c.loop-place.place < length c.args.order.now = omega arith in
    record {
      same = length-set _ _ _ ∙ was.same;
      entered = places-more c.args.order.now c.requires c.loop-place.places.items was.same c.loop-place.place below was.entered;
    }

pub returns : goal.returns
returns c =
    let was = c.loop-place.invariant in
    all-places c.args.order.now c.requires c.loop-place.places.items was.same (λ p h. was.entered p (omega arith))
