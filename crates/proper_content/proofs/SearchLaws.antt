-- What a search by halving tells of texts in order.
use Rattle.std.proofs.Common.{◌≡◌, ◌∙◌, ℕ, ◌<◌, true, false, ◌||◌, List, [], ◌∷◌, length, get_or, sym, ap, refl, arith, bytes_eq, Result, Ok, Err, ⊎_elim, subst}
use Rattle.std.specs.Prelude.{is_ok}
use Rattle.std.specs.List.{list_any}
use Rattle.std.specs.List.Sorted.{IsSorted, IsBinarySearchResult, IsSearchInRange}
use Rattle.std.specs.declared.cmp.Ordering.{Ordering}
use Rattle.std.specs.declared.cmp.Ordering.TheVariants.{Less, Equal, Greater}
use Rattle.std.specs.Ordering.{on, is_eq}
use Rattle.std.proofs.lemmas.Bool.{cases_lt}
use Rattle.std.proofs.lemmas.List.Folds.{list_any_at, list_any_none}
use Rattle.std.proofs.lemmas.List.Sorted.{searchable_from_sorted}
use Rattle.std.proofs.lemmas.Map.Text.{is_eq-slice_cmp}
use Rattle.ix_base.specs.SortedLists.{text_cmp}
use Rattle.ix_base.proofs.OrderLemmas.{text_total}
use Rattle.instance_lines.specs.Lists.{has}
use Rattle.instance_lines.specs.Tables.{values_of}
use denote.Ref.{Bor}

any-values : (x : List ℕ) (xs : List (Bor (List ℕ))) → list_any (λ y. bytes_eq y.now x) xs ≡ has (values_of xs) x
any-values x [] = refl
any-values x (y ∷ ys) = ap (λ b. bytes_eq y.now x || b) (any-values x ys)

-- an element that ties is the text
there : (x : List ℕ) (xs : List (Bor (List ℕ))) (i : ℕ) → i < length xs → ((d : Bor (List ℕ)) → text_cmp (get_or xs i d).now x ≡ Equal)
    → list_any (λ y. bytes_eq y.now x) xs ≡ true
there x [] i h e = absurd (omega arith)
there x (z ∷ zs) i h e =
    list_any_at (λ (y : Bor (List ℕ)). bytes_eq y.now x) (z ∷ zs) i z h (sym (is_eq-slice_cmp (get_or (z ∷ zs) i z).now x) ∙ ap is_eq (e z))

-- one that doesn't tie isn't
other : (y x : List ℕ) (r : Ordering) → text_cmp y x ≡ r → is_eq r ≡ false → bytes_eq y x ≡ false
other y x r e n = sym (is_eq-slice_cmp y x) ∙ ap is_eq e ∙ n

pub found : (x : List ℕ) (xs : List (Bor (List ℕ))) (r : Result ℕ ℕ) → IsSorted (on (λ (t : Bor (List ℕ)). t.now) text_cmp) xs
    → IsSearchInRange r (length xs) → IsBinarySearchResult (λ y. text_cmp y.now x) xs r → is_ok r ≡ has (values_of xs) x
found x xs (Ok i) up within at = sym (there x xs i within at) ∙ any-values x xs
found x xs (Err i) up within at =
    let parted = at (searchable_from_sorted text_total (λ (t : Bor (List ℕ)). t.now) xs x up) in
    sym (list_any_none (λ (y : Bor (List ℕ)). bytes_eq y.now x) xs
    (λ k d h. ⊎_elim (λ less. other (get_or xs k d).now x Less (parted.0 k d (omega arith) less) refl)
    (λ more. other (get_or xs k d).now x Greater (parted.1 k d more h) refl) (cases_lt k i)))
    ∙ any-values x xs

-- the same where the texts are known as others
pub found_in : (x : List ℕ) (xs ys : List (Bor (List ℕ))) (seen : List (List ℕ)) (r : Result ℕ ℕ) → xs ≡ ys
    → IsSorted (on (λ (t : Bor (List ℕ)). t.now) text_cmp) ys → values_of ys ≡ seen
    → IsSearchInRange r (length xs) → IsBinarySearchResult (λ y. text_cmp y.now x) xs r → is_ok r ≡ has seen x
found_in x xs ys seen r same up shown within at =
    found x xs r (subst (λ l. IsSorted (on (λ (t : Bor (List ℕ)). t.now) text_cmp) l) (sym same) up) within at
    ∙ ap (λ l. has (values_of l) x) same ∙ ap (λ l. has l x) shown
