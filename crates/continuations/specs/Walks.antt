-- Walks over numbered elements, each of which has the number of the one at which it goes on, where it does.
use Rattle.std.specs.Prelude.{ℕ, zero, suc, ◌≡◌, ◌<◌, ◌≤◌, Bool, true, false, List, length, Option, Some, None, option_map, option_and_then, slice_index_or, slice_get}
use Rattle.ix_base.specs.Asks.{Asks}
use Rattle.ix_base.specs.Chain.{next}
use Rattle.ix_base.specs.LocatedElements.{Located}

-- the number of the element at which one goes on
abbrev pub next_at : List (Option ℕ) → ℕ → Option ℕ
next_at nexts k = slice_index_or nexts k None

-- where so many steps lead
abbrev pub walk : List (Option ℕ) → ℕ → ℕ → Option ℕ
walk nexts zero k = Some k
walk nexts (suc t) k = option_and_then (walk nexts t) (next_at nexts k)

-- some number of steps leads from one to the other
abbrev pub Reaches : List (Option ℕ) → ℕ → ℕ → Type 0
Reaches nexts a b = (t : ℕ) × (walk nexts t a ≡ Some b)

-- the numbers are those of elements at which these go on; the first so many are the continuations
pub record AreNexts (a : Asks Located) (xs : List Located) (count : ℕ) (nexts : List (Option ℕ)) : Type 0 where
  pub length_is : length nexts ≡ length xs
  pub small : count ≤ length xs
  pub below : (k j : ℕ) → next_at nexts k ≡ Some j → j < count
  pub names : (k : ℕ) (e : Located) → slice_get xs k ≡ Some e → option_map (slice_get xs) (next_at nexts k) ≡ option_map Some (next a e)

abbrev pub is_marked : List Bool → ℕ → Bool
is_marked marks k = slice_index_or marks k false

-- two of these go on at one
abbrev pub Joined : List (Option ℕ) → Type 0
Joined nexts = (i j k : ℕ) × (i < j) × (next_at nexts i ≡ Some k) × (next_at nexts j ≡ Some k)

-- those are marked to which a walk leads from one of these numbers
abbrev pub AreReached : List (Option ℕ) → ℕ → ℕ → List Bool → Type 0
AreReached nexts low high marks = (k : ℕ) → (is_marked marks k ≡ true → (h : ℕ) × (low ≤ h) × (h < high) × Reaches nexts h k)
    × ((h : ℕ) → low ≤ h → h < high → Reaches nexts h k → is_marked marks k ≡ true)
