-- Things by their numbers.
use Rattle.std.specs.Prelude.{ℕ, List, [], length, slice_get}
use Rattle.std.specs.List.{range_with_len}
use Rattle.std.specs.Option.{option_map_or}
use Rattle.std.specs.Ordering.{on}
use Rattle.ix_base.specs.SortedLists.{sorted, text_cmp}

-- the text that a key makes of the thing of this number
abbrev pub key_at : {X : Type 0} → (X → List ℕ) → List X → ℕ → List ℕ
key_at key xs k = option_map_or key (slice_get xs k) []

-- the numbers of things in the order of what a key makes of these
abbrev pub numbers_by : {X : Type 0} → (X → List ℕ) → List X → List ℕ
numbers_by key xs = sorted (on (key_at key xs) text_cmp) (range_with_len 0 (length xs))
