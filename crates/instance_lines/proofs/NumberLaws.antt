-- Things sorted by their numbers.
use Rattle.std.proofs.Common.{◌≡◌, ◌∙◌, ◌+◌, ◌<◌, ℕ, zero, suc, List, [], ◌∷◌, length, get_or, map, refl, sym, ap, arith, Option, None, Some}
use Rattle.std.specs.List.{range_with_len, slice_get}
use Rattle.std.specs.List.Sorted.{IsPermutation}
use Rattle.std.specs.declared.cmp.Ordering.{Ordering}
use Rattle.std.specs.Option.{option_map_or}
use Rattle.std.specs.Ordering.{on}
use Rattle.std.proofs.lemmas.Option.{slice_get-get_or}
use Rattle.ix_base.specs.SortedLists.{sorted, text_cmp}
use Rattle.instance_lines.specs.Numbering.{key_at, numbers_by}
use Rattle.instance_lines.proofs.Sorting.{map-map, sorted-map, sorted_moves}

-- a range one further on
range-next : (a n : ℕ) → range_with_len (a + 1) n ≡ map suc (range_with_len a n)
range-next a zero = refl
range-next a (suc n) = ap (λ l. (a + 1) ∷ l) (range-next (a + 1) n) ∙ ap (λ m. m ∷ map suc (range_with_len (a + 1) n)) (omega arith)

-- the things of all numbers are all things
all-numbered : {X : Type 0} (xs : List X) → map (slice_get xs) (range_with_len 0 (length xs)) ≡ map Some xs
all-numbered [] = refl
all-numbered (x ∷ xs) =
    ap (λ l. Some x ∷ map (slice_get (x ∷ xs)) l) (range-next 0 (length xs))
    ∙ ap (λ l. Some x ∷ l) (map-map suc (slice_get (x ∷ xs)) (range_with_len 0 (length xs)) ∙ all-numbered xs)

somes-same : {X : Type 0} (xs ys : List X) → map Some xs ≡ map Some ys → xs ≡ ys
somes-same {X} xs ys e = sym (back xs) ∙ ap (map-out) e ∙ back ys where
  map-out : List (Option X) → List X
  map-out [] = []
  map-out (None ∷ os) = map-out os
  map-out (Some x ∷ os) = x ∷ map-out os

  back : (zs : List X) → map-out (map Some zs) ≡ zs
  back [] = refl
  back (z ∷ zs) = ap (λ l. z ∷ l) (back zs)

-- the text that a key makes of a thing, by its number
pub key_at-is : {X : Type 0} (key : X → List ℕ) (xs : List X) (k : ℕ) (x : X) → k < length xs → x ≡ get_or xs k x → key_at key xs k ≡ key x
key_at-is key xs k x h is = ap (λ o. option_map_or key o []) (slice_get-get_or xs k x h) ∙ ap key (sym is)

-- the numbers are all of them, in another order
pub numbers-moved : {X : Type 0} (key : X → List ℕ) (xs : List X) → IsPermutation (range_with_len 0 (length xs)) (numbers_by key xs)
numbers-moved key xs = sorted_moves (on (key_at key xs) text_cmp) (range_with_len 0 (length xs))

-- what a key makes of the things of all numbers
keys-numbered : {X : Type 0} (key : X → List ℕ) (xs : List X) → map (key_at key xs) (range_with_len 0 (length xs)) ≡ map key xs
keys-numbered {X} key xs =
    let on_option : Option X → List ℕ = λ o. option_map_or key o [] in
    sym (map-map (slice_get xs) on_option (range_with_len 0 (length xs))) ∙ ap (map on_option) (all-numbered xs) ∙ map-map Some on_option xs

-- what a key makes of things in the order of their numbers
pub keys-by_numbers : {X : Type 0} (key : X → List ℕ) (xs : List X) → map (key_at key xs) (numbers_by key xs) ≡ sorted text_cmp (map key xs)
keys-by_numbers key xs = sym (sorted-map (key_at key xs) text_cmp (range_with_len 0 (length xs))) ∙ ap (sorted text_cmp) (keys-numbered key xs)

-- things in the order of their numbers are sorted
pub sorted-by_numbers : {X : Type 0} (key : X → List ℕ) (xs ys : List X) (numbers : List ℕ) → numbers ≡ numbers_by key xs
    → map Some ys ≡ map (slice_get xs) numbers → ys ≡ sorted (on key text_cmp) xs
sorted-by_numbers {X} key xs ys numbers by are =
    let R : Option X → Option X → Ordering = on (λ o. option_map_or key o []) text_cmp in
    somes-same ys (sorted (on key text_cmp) xs)
    (are ∙ ap (map (slice_get xs)) by ∙ sym (sorted-map (slice_get xs) R (range_with_len 0 (length xs))) ∙ ap (sorted R) (all-numbered xs) ∙ sorted-map Some R xs)
