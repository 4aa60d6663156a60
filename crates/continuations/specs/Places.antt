-- Places that are kept, and the elements for which they stand.
use Rattle.std.specs.Prelude.{ℕ, ◌≡◌, ◌<◌, Bool, true, List, Some, slice_get}
use Rattle.std.specs.List.{list_any}
use Rattle.indexmap.specs.IndexSet.{IndexSet, contains_by}
use Rattle.ix_base.specs.LinkRules.{is_at}
use Rattle.ix_base.specs.LocatedElements.{Located}
use Rattle.id_table.specs.Slices.{is_key}
use Rattle.continuations.specs.Walks.{is_marked}

abbrev pub holds : {S : Type 0} → IndexSet (ℕ × ℕ) S → ℕ → ℕ → Bool
holds places page offset = contains_by (is_key page offset) places

-- the places are those of these elements
abbrev pub StandsFor : {S : Type 0} → IndexSet (ℕ × ℕ) S → List Located → Type 0
StandsFor places xs = (page offset : ℕ) → holds places page offset ≡ list_any (is_at page offset) xs

-- the places are those of the marked ones of the first so many elements
pub record HoldsMarked {S : Type 0} (places : IndexSet (ℕ × ℕ) S) (xs : List Located) (marks : List Bool) (upto : ℕ) : Type 0 where
  pub found : (page offset : ℕ) → holds places page offset ≡ true
      → (k : ℕ) × (e : Located) × (slice_get xs k ≡ Some e) × (is_marked marks k ≡ true) × (is_at page offset e ≡ true)
  pub kept : (page offset k : ℕ) (e : Located) → k < upto → slice_get xs k ≡ Some e → is_marked marks k ≡ true → is_at page offset e ≡ true
      → holds places page offset ≡ true
