-- Elements of chains that stand inside others.
use Rattle.std.specs.Prelude.{ℕ, ◌≡◌, ◌<◌, ◌↔◌, ◌⊎◌, ◌==◌, Bool, true, List, [], ◌∷◌, Option, Some, Vec, length, slice_get}
use Rattle.std.specs.Global.{Global}
use Rattle.std.specs.List.{list_any}
use Rattle.std.specs.Option.{option_map_or}
use Rattle.indexmap.specs.IndexMap.{IndexMap, get_by}
use Rattle.ix_base.specs.LinkRules.{is_at}
use Rattle.ix_base.specs.LocatedElements.{Located}
use Rattle.id_table.specs.Slices.{is_key}
use Rattle.continuations.specs.Visits.{Shared}
use Rattle.continuations.specs.Walks.{is_marked}

-- the numbers of the elements at a place
abbrev pub numbers_at : {S : Type 0} → IndexMap (ℕ × ℕ) (Vec ℕ Global) S → ℕ → ℕ → List ℕ
numbers_at m page offset = option_map_or (λ v. v.items) (get_by (is_key page offset) m) []

-- at each place stand the numbers of the first so many elements that are there
pub record ArePlaced {S : Type 0} (m : IndexMap (ℕ × ℕ) (Vec ℕ Global) S) (xs : List Located) (upto : ℕ) : Type 0 where
  pub found : (p : ℕ → Bool) (page offset : ℕ) → list_any p (numbers_at m page offset) ≡ true
      → (j : ℕ) × (f : Located) × (slice_get xs j ≡ Some f) × (is_at page offset f ≡ true) × (p j ≡ true)
  pub kept : (p : ℕ → Bool) (page offset j : ℕ) (f : Located) → j < upto → slice_get xs j ≡ Some f → is_at page offset f ≡ true → p j ≡ true
      → list_any p (numbers_at m page offset) ≡ true

-- the property holds of some
abbrev pub AnyOf : {X : Type 0} → (X → Type 0) → List X → Type 0
AnyOf P [] = ⊥
AnyOf P (x ∷ xs) = P x ⊎ AnyOf P xs

-- a walk leads both to this one and to one of these numbers
abbrev pub SharesAny : List (Option ℕ) → ℕ → List ℕ → ℕ → Type 0
SharesAny nexts first numbers x = (y : ℕ) × (list_any (λ n. y == n) numbers ≡ true) × Shared nexts first (length nexts) x y

-- a walk leads both to this one and to one that stands around it
abbrev pub IsInner : {S : Type 0} → List (Option ℕ) → ℕ → IndexMap (ℕ × ℕ) (Vec ℕ Global) S → ℕ → Located → Type 0
IsInner nexts first m x e = AnyOf (λ t. SharesAny nexts first (numbers_at m e.page t.head.offset) x) e.placed.above

-- the marked ones are those that stand inside others to which one walk leads too
abbrev pub AreInner : {S : Type 0} → List (Option ℕ) → ℕ → IndexMap (ℕ × ℕ) (Vec ℕ Global) S → List Located → ℕ → List Bool → Type 0
AreInner nexts first m xs upto marks = (k : ℕ) (e : Located) → k < upto → slice_get xs k ≡ Some e → (is_marked marks k ≡ true) ↔ IsInner nexts first m k e
