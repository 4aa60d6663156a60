use Rattle.std.proofs.Common.{◌≡◌, ◌<◌, ℕ, length, slice_get, slice_index}
use Rattle.reordering.specs.Inverses.{AreInverse}
use Rattle.reordering.proofs.reorder.exchange.Given as goal

-- the places so far have their things, and to each of the others goes what it is to have
abbrev pub invariant-loop-place : goal.invariant-loop-place
invariant-loop-place g l = record {
  inverse : AreInverse l.order l.places;
  same : length l.things ≡ length l.order;
  done : (j : ℕ) → j < l.place → slice_index l.order j ≡ j;
  kept : (k : ℕ) → k < length l.order → slice_get l.things (slice_index l.order k) ≡ slice_get l.initial.things (slice_index l.initial.order k);
}
