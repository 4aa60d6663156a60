use Rattle.std.proofs.Common.{◌≡◌, ◌∙◌, ◌<◌, ap, arith, length, slice_index, sym, ⊎_elim}
use Rattle.std.proofs.lemmas.Bool.{cases_eq}
use Rattle.reordering.proofs.Exchanging.{done-in, inverse-kept, kept-in}
use Rattle.reordering.proofs.reorder.exchange.Goals as goal

pub loop-place-preserved : goal.loop-place-preserved
loop-place-preserved g c =
    let was = c.loop-place.invariant in
    let xs = c.loop-place.order in
    let ys = c.loop-place.places in
    let at = c.loop-place.place in
    let within : at < length xs = omega arith in
    let moved = c.swap-in-loop-place.ensures.after in
    record {
      inverse = rw (moved, c.swap-in-loop-place-2.ensures.after) (inverse-kept xs ys at was.inverse within);
      same = c.swap.ensures.len ∙ was.same ∙ sym c.swap-in-loop-place.ensures.len;
      done = rw moved (done-in xs ys at was.inverse within was.done);
      kept = rw (moved, c.swap.ensures.after) (kept-in xs ys at was.inverse within c.loop-place.things _ was.same was.kept);
    }

pub loop-place-preserved-then-from-place : goal.loop-place-preserved-then-from-place
loop-place-preserved-then-from-place g c =
    let was = c.loop-place.invariant in
    let at = c.loop-place.place in
    record {
      inverse = was.inverse;
      same = was.same;
      kept = was.kept;
      done = λ j h. ⊎_elim (λ (e : j ≡ at). ap (slice_index c.loop-place.order) e ∙ c.if-from-place.true ∙ sym e)
          (λ (other : j ≡ at → ⊥). was.done j (omega (arith, h, other))) (cases_eq j at);
    }
