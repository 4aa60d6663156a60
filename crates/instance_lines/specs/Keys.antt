-- The order of things by their keys.
use Rattle.std.specs.Prelude.{ℕ, Bool, false, List, [], ◌∷◌, map, if◌then◌else◌}
use Rattle.std.specs.declared.cmp.Ordering.{Ordering}
use Rattle.std.specs.Ordering.{is_eq, on}
use Rattle.ix_base.specs.SortedLists.{text_cmp}
use Rattle.instance_lines.specs.declared.sort.Keyed.{Keyed}

abbrev pub by_key : {T : Type 0} → Keyed T → Keyed T → Ordering
by_key = on (λ k. k.key) text_cmp

-- things with the texts by which they are put in order
abbrev pub keyed_by : {T : Type 0} → (T → List ℕ) → List T → List (Keyed T)
keyed_by key xs = map (λ x. record { key = key x; item = x }) xs

-- whether the last of some things ties with this one
abbrev pub ties_last : {X : Type 0} → (X → X → Ordering) → List X → X → Bool
ties_last R [] x = false
ties_last R (y ∷ []) x = is_eq (R y x)
ties_last R (y ∷ z ∷ zs) x = ties_last R (z ∷ zs) x

-- one more at the end, in the place of the last one where both tie
abbrev pub with_last : {X : Type 0} → (X → X → Ordering) → List X → X → List X
with_last R [] x = x ∷ []
with_last R (y ∷ []) x = if is_eq (R y x) then x ∷ [] else y ∷ x ∷ []
with_last R (y ∷ z ∷ zs) x = y ∷ with_last R (z ∷ zs) x

-- x in front of a list, unless it ties with the first, and what is left of the list
abbrev pub before_tie : {X : Type 0} → (X → X → Ordering) → X → List X → List X → List X
before_tie R x [] left = x ∷ left
before_tie R x (y ∷ ys) left = if is_eq (R x y) then left else x ∷ left

-- of those side by side that tie the last
abbrev pub lasts : {X : Type 0} → (X → X → Ordering) → List X → List X
lasts R [] = []
lasts R (x ∷ xs) = before_tie R x xs (lasts R xs)
