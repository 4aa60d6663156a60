use Rattle.std.proofs.Common.{◌≡◌, ◌<◌, ℕ, length, slice_index}
use Rattle.reordering.proofs.reorder.places_in.Given as goal

-- the places so far are entered
abbrev pub invariant-loop-place : goal.invariant-loop-place
invariant-loop-place l = record {
  same : length l.places.items ≡ length l.order;
  entered : (p : ℕ) → p < l.place → slice_index l.places.items (slice_index l.order p) ≡ p;
}
