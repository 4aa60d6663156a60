-- Two lists of numbers of which each undoes the other.
use Rattle.std.specs.Prelude.{◌≡◌, ℕ, ◌<◌, List, length, slice_index}

pub record AreInverse (xs ys : List ℕ) : Type 0 where
  pub lengths : length ys ≡ length xs
  pub there : (k : ℕ) → k < length xs → (slice_index xs k < length xs) × (slice_index ys (slice_index xs k) ≡ k)
  pub back : (k : ℕ) → k < length xs → (slice_index ys k < length xs) × (slice_index xs (slice_index ys k) ≡ k)
