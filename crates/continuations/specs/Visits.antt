-- The visits of walks from the starts of chains, each as far as no walk before it went.
use Rattle.std.specs.Prelude.{ℕ, suc, ◌≡◌, ◌<◌, ◌≤◌, ◌⊎◌, List, length, Option, Some, None, option_and_then, slice_index_or}
use Rattle.continuations.specs.declared.visits.Visit.{Visit}
use Rattle.continuations.specs.Walks.{next_at, walk, Reaches}

abbrev pub visit_at : List (Option Visit) → ℕ → Option Visit
visit_at visits k = slice_index_or visits k None

-- where the walk from a number met one that had been met
abbrev pub meet_at : List (Option ℕ) → ℕ → Option ℕ
meet_at meets h = slice_index_or meets h None

-- the walks from the numbers between these are done
pub record Met (nexts : List (Option ℕ)) (first upto : ℕ) (visits : List (Option Visit)) (meets : List (Option ℕ)) : Type 0 where
  pub at : (k : ℕ) (b : Visit) → visit_at visits k ≡ Some b → (first ≤ b.walk) × (b.walk < upto) × (walk nexts b.step b.walk ≡ Some k)
  pub on : (k n : ℕ) (b : Visit) → visit_at visits k ≡ Some b → next_at nexts k ≡ Some n
      → (c : Visit) × (visit_at visits n ≡ Some c) × (((c.walk ≡ b.walk) × (c.step ≡ suc b.step)) ⊎ ((meet_at meets b.walk ≡ Some n) × (c.walk ≤ b.walk)))
  pub ends : (k n : ℕ) (b : Visit) → visit_at visits k ≡ Some b → meet_at meets b.walk ≡ Some n → Reaches nexts k n
  pub begun : (h : ℕ) → first ≤ h → h < upto → (b : Visit) × (visit_at visits h ≡ Some b) × (b.walk ≡ h)
  pub low : (k : ℕ) (b : Visit) → visit_at visits k ≡ Some b → (k < first) ⊎ (k < upto)

-- what the walk from a number has met so far
pub record Walking (nexts : List (Option ℕ)) (from : ℕ) (old visits : List (Option Visit)) (step : ℕ) (here : Option ℕ) : Type 0 where
  pub kept : (k : ℕ) (b : Visit) → visit_at old k ≡ Some b → visit_at visits k ≡ Some b
  pub new : (k : ℕ) (b : Visit) → visit_at visits k ≡ Some b → (visit_at old k ≡ Some b) ⊎ ((b.walk ≡ from) × (b.step < step) × (walk nexts b.step from ≡ Some k)
      × ((n : ℕ) → next_at nexts k ≡ Some n → ((c : Visit) × (visit_at visits n ≡ Some c) × (c.walk ≡ from) × (c.step ≡ suc b.step)) ⊎ ((here ≡ Some n) × (step ≡ suc b.step))) × ((k ≡ from) ⊎ (z : ℕ) × (next_at nexts z ≡ Some k)))
  pub comes : walk nexts step from ≡ here
  pub begun : ((b : Visit) × (visit_at visits from ≡ Some b) × (b.walk ≡ from)) ⊎ (here ≡ Some from)
  pub next : (n : ℕ) → here ≡ Some n → (n ≡ from) ⊎ (z : ℕ) × (next_at nexts z ≡ Some n)

-- from a number a walk leads to just what one from the other leads to, among what walks before the other met
abbrev pub Leads : List (Option ℕ) → List (Option Visit) → ℕ → ℕ → Type 0
Leads nexts visits h f = (j : ℕ) (c : Visit) → visit_at visits j ≡ Some c → c.walk < f → (Reaches nexts h j → Reaches nexts f j) × (Reaches nexts f j → Reaches nexts h j)

-- for each number an earlier one to which its walk leads, or itself
pub record AreFar (nexts : List (Option ℕ)) (first : ℕ) (visits : List (Option Visit)) (fars : List ℕ) : Type 0 where
  pub early : (h : ℕ) → h < length fars → slice_index_or fars h 0 ≤ h
  pub late : (h : ℕ) → first ≤ h → h < length fars → first ≤ slice_index_or fars h 0
  pub leads : (h : ℕ) → first ≤ h → h < length fars → Leads nexts visits h (slice_index_or fars h 0)

-- a walk from one number leads to both
abbrev pub Shared : List (Option ℕ) → ℕ → ℕ → ℕ → ℕ → Type 0
Shared nexts first upto x y = (h : ℕ) × (first ≤ h) × (h < upto) × Reaches nexts h x × Reaches nexts h y

abbrev pub merge_at : List (Option Visit) → List (Option ℕ) → ℕ → Option Visit
merge_at visits meets h = option_and_then (visit_at visits) (meet_at meets h)

-- a walk that came to the one leads to the other, both on one walk: straight on, or once round the circle in which this walk ends
abbrev pub Behind : List (Option Visit) → List (Option ℕ) → Visit → Visit → Type 0
Behind visits meets d c = (d.step ≤ c.step) ⊎ (x : Visit) × (merge_at visits meets d.walk ≡ Some x) × (x.walk ≡ d.walk) × (x.step ≤ c.step)

-- the number itself, the one whose walk its walk met, or a far one of a far one of that
abbrev pub IsFar : List (Option Visit) → List (Option ℕ) → List ℕ → ℕ → ℕ → Type 0
IsFar visits meets fars h f = (f ≡ h) ⊎ (d : Visit) × (merge_at visits meets h ≡ Some d) × (d.walk < h)
    × ((f ≡ d.walk) ⊎ (f ≡ slice_index_or fars (slice_index_or fars d.walk 0) 0))
