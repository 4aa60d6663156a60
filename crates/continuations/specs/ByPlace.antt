-- Chains by the places of their first elements, as they are kept.
use Rattle.std.specs.Prelude.{ℕ, ◌≡◌, ◌<◌, ◌≤◌, true, false, ◌++◌, List, map, Some, slice_get}
use Rattle.std.specs.Ordering.{is_lt}
use Rattle.indexmap.specs.IndexMap.{IndexMap}
use Rattle.ix_base.specs.LocatedElements.{Located}
use Rattle.id_table.specs.declared.slice.Slice.{Slice}
use Rattle.id_table.specs.Slices.{lists_in, spots_in}
use Rattle.continuations.specs.Nesting.{key_cmp}

-- the chains that are kept, each with its place: those in order, and behind them those of the table
abbrev pub chains_in : {S : Type 0} → List ((ℕ × ℕ) × Slice) → IndexMap (ℕ × ℕ) Slice S → List ((ℕ × ℕ) × List Located)
chains_in front rest = map (λ e. (e.0, spots_in e.1)) front ++ lists_in rest

-- each place is before those of all that stand behind it
abbrev pub IsRising : List ((ℕ × ℕ) × Slice) → Type 0
IsRising es = (i j : ℕ) (x y : (ℕ × ℕ) × Slice) → i < j → slice_get es i ≡ Some x → slice_get es j ≡ Some y → is_lt (key_cmp x.0 y.0) ≡ true

-- the first so many are before a place
abbrev pub AreBefore : ℕ × ℕ → ℕ → List ((ℕ × ℕ) × Slice) → Type 0
AreBefore place n es = (i : ℕ) (x : (ℕ × ℕ) × Slice) → i < n → slice_get es i ≡ Some x → is_lt (key_cmp x.0 place) ≡ true

-- those behind the first so many aren't before a place
abbrev pub AreNotBefore : ℕ × ℕ → ℕ → List ((ℕ × ℕ) × Slice) → Type 0
AreNotBefore place n es = (i : ℕ) (x : (ℕ × ℕ) × Slice) → n ≤ i → slice_get es i ≡ Some x → is_lt (key_cmp x.0 place) ≡ false

-- all are before a place
abbrev pub IsBehind : ℕ × ℕ → List ((ℕ × ℕ) × Slice) → Type 0
IsBehind place es = (i : ℕ) (x : (ℕ × ℕ) × Slice) → slice_get es i ≡ Some x → is_lt (key_cmp x.0 place) ≡ true
