-- Runs of bytes at the front of a text.
use Rattle.std.proofs.Common.{◌≡◌, ℕ, ◌≤◌, Bool, true, false, List, [], ◌∷◌, ◌++◌, length, refl, ap, ◌∙◌, arith, inl, inr}
use Rattle.std.proofs.lemmas.Bool.{and_parts, and_from, cases_Bool, cond-true, cond-false}
use Rattle.tr4_dates.specs.Runs.{Class, class_of, all_in, begins_in, ends_in, run, after}

pub run_after : (set : Class → Bool) (t : List ℕ) → t ≡ run set t ++ after set t
unfolding run after
run_after set [] = refl
run_after set (b ∷ bs) =
    elim (cases_Bool (set (class_of b))) [
      | inl yes_b ↦ rw (yes_b) (ap (λ l. b ∷ l) (run_after set bs))
      | inr no_b ↦ rw (no_b) refl
    ]

pub all_in-run : (set : Class → Bool) (t : List ℕ) → all_in set (run set t) ≡ true
unfolding run all_in
all_in-run set [] = refl
all_in-run set (b ∷ bs) =
    elim (cases_Bool (set (class_of b))) [
      | inl yes_b ↦ rw (yes_b) (and_from (set (class_of b)) _ yes_b (all_in-run set bs))
      | inr no_b ↦ rw (no_b) refl
    ]

pub begins_in-after : (set : Class → Bool) (t : List ℕ) → begins_in set (after set t) ≡ false
unfolding after
begins_in-after set [] = refl
begins_in-after set (b ∷ bs) =
    elim (cases_Bool (set (class_of b))) [
      | inl yes_b ↦ rw (yes_b) (begins_in-after set bs)
      | inr no_b ↦ rw (no_b) no_b
    ]

pub run-append : (set : Class → Bool) (p t : List ℕ) → begins_in set t ≡ false → run set (p ++ t) ≡ run set p
unfolding run
run-append set [] [] stop = refl
run-append set [] (b ∷ bs) stop = cond-false _ _ _ stop
run-append set (b ∷ bs) t stop =
    elim (cases_Bool (set (class_of b))) [
      | inl yes_b ↦ rw (yes_b) (ap (λ l. b ∷ l) (run-append set bs t stop))
      | inr no_b ↦ rw (no_b) refl
    ]

pub after-append : (set : Class → Bool) (p t : List ℕ) → begins_in set t ≡ false → after set (p ++ t) ≡ after set p ++ t
unfolding after
after-append set [] [] stop = refl
after-append set [] (b ∷ bs) stop = cond-false _ _ _ stop
after-append set (b ∷ bs) t stop =
    elim (cases_Bool (set (class_of b))) [
      | inl yes_b ↦ rw (yes_b) (after-append set bs t stop)
      | inr no_b ↦ rw (no_b) refl
    ]

pub run-all : (set : Class → Bool) (p : List ℕ) → all_in set p ≡ true → run set p ≡ p
unfolding run all_in
run-all set [] all = refl
run-all set (b ∷ bs) all =
    let parts = and_parts (set (class_of b)) (all_in set bs) all in
    cond-true _ _ _ parts.0 ∙ ap (λ l. b ∷ l) (run-all set bs parts.1)

pub after-all : (set : Class → Bool) (p : List ℕ) → all_in set p ≡ true → after set p ≡ []
unfolding after all_in
after-all set [] all = refl
after-all set (b ∷ bs) all =
    let parts = and_parts (set (class_of b)) (all_in set bs) all in
    cond-true _ _ _ parts.0 ∙ after-all set bs parts.1

pub run-whole : (set : Class → Bool) (p t : List ℕ) → all_in set p ≡ true → begins_in set t ≡ false
    → run set (p ++ t) ≡ p
run-whole set p t all stop = run-append set p t stop ∙ run-all set p all

pub after-whole : (set : Class → Bool) (p t : List ℕ) → all_in set p ≡ true → begins_in set t ≡ false
    → after set (p ++ t) ≡ t
after-whole set p t all stop = after-append set p t stop ∙ ap (λ l. l ++ t) (after-all set p all)

-- a text that ends in one set is not gone through by a run of another
pub run-stops : (f g : Class → Bool) (v t : List ℕ) → ((c : Class) → f c ≡ true → g c ≡ false) → ends_in f v ≡ true
    → (run g (v ++ t) ≡ run g v) × (after g (v ++ t) ≡ after g v ++ t) × (ends_in f (after g v) ≡ true)
unfolding run after ends_in
run-stops f g [] t apart ends = absurd (cc)
run-stops f g (b ∷ []) t apart ends =
    let no_b = apart (class_of b) ends in
    (rw (no_b) refl, rw (no_b) refl, rw (no_b) ends)
run-stops f g (b ∷ c ∷ bs) t apart ends =
    let next = run-stops f g (c ∷ bs) t apart ends in
    elim (cases_Bool (g (class_of b))) [
      | inl yes_b ↦ rw (yes_b) (ap (λ l. b ∷ l) next.0, next.1, next.2)
      | inr no_b ↦ rw (no_b) (refl, refl, ends)
    ]

pub ends_in-tail : (f : Class → Bool) (xs ys : List ℕ) → 1 ≤ length ys → ends_in f (xs ++ ys) ≡ ends_in f ys
unfolding ends_in
ends_in-tail f [] ys some = refl
ends_in-tail f (x ∷ []) [] some = absurd (omega arith)
ends_in-tail f (x ∷ []) (y ∷ ys) some = refl
ends_in-tail f (x ∷ z ∷ xs) ys some = ends_in-tail f (z ∷ xs) ys some

pub all_in-tail : (f : Class → Bool) (xs ys : List ℕ) → all_in f (xs ++ ys) ≡ true → all_in f ys ≡ true
unfolding all_in
all_in-tail f [] ys all = all
all_in-tail f (x ∷ xs) ys all = all_in-tail f xs ys (and_parts (f (class_of x)) _ all).1
