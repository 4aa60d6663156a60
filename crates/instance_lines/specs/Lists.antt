-- Words on lists: their order, and what they have.
use Rattle.std.specs.Prelude.{ℕ, Bool, true, not, ◌&&◌, List, [], ◌∷◌, Option, Some, None, bytes_eq}
use Rattle.std.specs.List.{list_any, list_all}
use Rattle.std.specs.Ordering.{is_lt, is_gt}
use Rattle.std.specs.declared.cmp.Ordering.{Ordering}

-- no member is greater than the next
abbrev pub rises : {X : Type 0} → (X → X → Ordering) → List X → Bool
rises R [] = true
rises R (x ∷ []) = true
rises R (x ∷ y ∷ ys) = not (is_gt (R x y)) && rises R (y ∷ ys)

-- each member is less than the next
abbrev pub strictly : {X : Type 0} → (X → X → Ordering) → List X → Bool
strictly R [] = true
strictly R (x ∷ []) = true
strictly R (x ∷ y ∷ ys) = is_lt (R x y) && strictly R (y ∷ ys)

abbrev pub has : List (List ℕ) → List ℕ → Bool
has ids id = list_any (λ x. bytes_eq x id) ids

abbrev pub is_within : List (List ℕ) → List (List ℕ) → Bool
is_within ids among = list_all (has among) ids

abbrev pub of_option : Option (List ℕ) → List (List ℕ)
of_option None = []
of_option (Some x) = x ∷ []

-- no text stands twice
abbrev pub are_apart : List (List ℕ) → Bool
are_apart [] = true
are_apart (x ∷ xs) = not (list_any (bytes_eq x) xs) && are_apart xs
