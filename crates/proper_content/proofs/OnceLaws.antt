-- Those of a list that don't stand again later are, in another order, its members each once.
use Rattle.std.proofs.Common.{◌≡◌, ◌∙◌, Bool, true, false, cond, ◌||◌, List, [], ◌∷◌, sym, ap, subst, refl, ⊎_elim}
use Rattle.std.specs.List.{list_any, AllByRecursion}
use Rattle.std.specs.List.Sorted.{IsPermutation, IsStrictlySortedBy}
use Rattle.std.specs.Cmp.{IsTotalOrder}
use Rattle.std.specs.declared.cmp.Ordering.{Ordering}
use Rattle.std.specs.declared.cmp.Ordering.TheVariants.{Less, Equal, Greater}
use Rattle.std.specs.Ordering.{ordering_reverse}
use Rattle.std.proofs.lemmas.Bool.{or_cases, cases_Bool, or_parts}
use Rattle.std.proofs.lemmas.List.Sorted.{IsPermutation-append, IsPermutation-append_comm, IsPermutation-cons, IsPermutation-refl, IsPermutation-trans}
use Rattle.ix_base.specs.Once.{put as put_once, put_by as put_once_by, in_order}
use Rattle.ix_base.specs.SortedLists.{put, put_by, sorted}
use Rattle.ix_base.proofs.OnceLemmas.{in_order-sorted}
use Rattle.proper_content.proofs.ListLaws.{IsSame}

-- What a sort leaves is the same in another order.
module _ {K : Type 0} (R : K → K → Ordering) where
  exchange : (x y : K) (ys : List K) → IsPermutation (x ∷ y ∷ ys) (y ∷ x ∷ ys)
  exchange x y ys = IsPermutation-append (x ∷ y ∷ []) (y ∷ x ∷ []) ys ys (IsPermutation-append_comm (x ∷ []) (y ∷ [])) (IsPermutation-refl ys)

  put_moves_by : (r : Ordering) (x y : K) (ys behind : List K) → IsPermutation (x ∷ ys) behind → IsPermutation (x ∷ y ∷ ys) (put_by r x y ys behind)
  put_moves_by Less x y ys behind h = IsPermutation-refl (x ∷ y ∷ ys)
  put_moves_by Equal x y ys behind h = IsPermutation-refl (x ∷ y ∷ ys)
  put_moves_by Greater x y ys behind h = IsPermutation-trans (x ∷ y ∷ ys) (y ∷ x ∷ ys) (y ∷ behind) (exchange x y ys) (IsPermutation-cons y (x ∷ ys) behind h)

  put_moves : (x : K) (ys : List K) → IsPermutation (x ∷ ys) (put R x ys)
  put_moves x [] = IsPermutation-refl (x ∷ [])
  put_moves x (y ∷ ys) = put_moves_by (R x y) x y ys (put R x ys) (put_moves x ys)

  pub sorted_moves : (xs : List K) → IsPermutation xs (sorted R xs)
  unfolding sorted
  sorted_moves [] = IsPermutation-refl []
  sorted_moves (x ∷ xs) = IsPermutation-trans (x ∷ xs) (x ∷ sorted R xs) (put R x (sorted R xs)) (IsPermutation-cons x xs (sorted R xs) (sorted_moves xs)) (put_moves x (sorted R xs))

module _ {K : Type 0} (E : K → K → Bool) (same : IsSame E) {R : K → K → Ordering} (o : IsTotalOrder R) (tie : (a b : K) → R a b ≡ Equal → a ≡ b) where
  -- those that don't stand again later
  abbrev pub counted : List K → List K
  counted [] = []
  counted (x ∷ xs) = cond (list_any (E x) xs) (counted xs) (x ∷ counted xs)

  twice : (p q : Bool) → (p || q) ≡ (p || (p || q))
  twice true q = refl
  twice false q = refl

  or-comm : (p q r : Bool) → (p || (q || r)) ≡ (q || (p || r))
  or-comm true true r = refl
  or-comm true false r = refl
  or-comm false true r = refl
  or-comm false false r = refl

  -- what passes among the members, each once
  any_by : (t : K → Bool) (r : Ordering) (x y : K) (ys behind : List K) → R x y ≡ r → list_any t behind ≡ (t x || list_any t ys)
      → list_any t (put_once_by r x y ys behind) ≡ (t x || list_any t (y ∷ ys))
  any_by t Less x y ys behind e h = refl
  any_by t Equal x y ys behind e h = subst (λ z. list_any t (y ∷ ys) ≡ (t z || list_any t (y ∷ ys))) (sym (tie x y e)) (twice (t y) (list_any t ys))
  any_by t Greater x y ys behind e h = ap (λ b. t y || b) h ∙ or-comm (t y) (t x) (list_any t ys)

  any-put : (t : K → Bool) (x : K) (ys : List K) → list_any t (put_once R x ys) ≡ (t x || list_any t ys)
  any-put t x [] = refl
  any-put t x (y ∷ ys) = any_by t (R x y) x y ys (put_once R x ys) refl (any-put t x ys)

  any-in_order : (t : K → Bool) (xs : List K) → list_any t (in_order R xs) ≡ list_any t xs
  unfolding in_order
  any-in_order t [] = refl
  any-in_order t (x ∷ xs) = any-put t x (in_order R xs) ∙ ap (λ b. t x || b) (any-in_order t xs)

  -- one that is there already
  self-ties : (x y : K) → E x y ≡ true → R x y ≡ Equal
  self-ties x y e = subst (λ z. R x z ≡ Equal) (same.one x y e) (by (R x x) refl)
    where
      by : (r : Ordering) → R x x ≡ r → R x x ≡ Equal
      by Less q = let f : Less ≡ Greater = sym q ∙ o.antisymm x x ∙ ap ordering_reverse q in cc
      by Equal q = q
      by Greater q = let f : Greater ≡ Less = sym q ∙ o.antisymm x x ∙ ap ordering_reverse q in cc

  is-above : (x y : K) (ys : List K) → AllByRecursion (λ z. R y z ≡ Less) ys → list_any (E x) ys ≡ true → R y x ≡ Less
  is-above x y [] h e = let f : false ≡ true = e in cc
  is-above x y (z ∷ zs) h e =
      ⊎_elim (λ s. subst (λ w. R y w ≡ Less) (sym (same.one x z s)) h.0) (λ later. is-above x y zs h.1 later) (or_cases (E x z) (list_any (E x) zs) e)

  apart-where : (x y : K) (r : Ordering) → R x y ≡ r → (r ≡ Equal → ⊥) → E x y ≡ false
  apart-where x y r e n = ⊎_elim (λ t. absurd (n (sym e ∙ self-ties x y t))) (λ f. f) (cases_Bool (E x y))

  stays_by : (r : Ordering) (x y : K) (ys behind : List K) → R x y ≡ r → AllByRecursion (λ z. R y z ≡ Less) ys → (list_any (E x) ys ≡ true → behind ≡ ys)
      → list_any (E x) (y ∷ ys) ≡ true → put_once_by r x y ys behind ≡ y ∷ ys
  stays_by Less x y ys behind e s k h =
      ⊎_elim (λ t. absurd (let f : Less ≡ Equal = sym e ∙ self-ties x y t in cc))
      (λ later. absurd (let f : Less ≡ Greater = sym (is-above x y ys s later) ∙ o.antisymm y x ∙ ap ordering_reverse e in cc))
      (or_cases (E x y) (list_any (E x) ys) h)
  stays_by Equal x y ys behind e s k h = refl
  stays_by Greater x y ys behind e s k h =
      ⊎_elim (λ t. absurd (let f : Greater ≡ Equal = sym e ∙ self-ties x y t in cc)) (λ later. ap (λ l. y ∷ l) (k later))
      (or_cases (E x y) (list_any (E x) ys) h)

  stays : (x : K) (ys : List K) → IsStrictlySortedBy R ys → list_any (E x) ys ≡ true → put_once R x ys ≡ ys
  unfolding IsStrictlySortedBy
  stays x [] s h = let f : false ≡ true = h in cc
  stays x (y ∷ ys) s h = stays_by (R x y) x y ys (put_once R x ys) refl s.0 (stays x ys s.1) h

  -- one that isn't
  put_alike_by : (r : Ordering) (x y : K) (ys one two : List K) → R x y ≡ r → E x y ≡ false → one ≡ two → put_by r x y ys one ≡ put_once_by r x y ys two
  put_alike_by Less x y ys one two e n h = refl
  put_alike_by Equal x y ys one two e n h = absurd (let f : true ≡ false = sym (same.is x y (tie x y e)) ∙ n in cc)
  put_alike_by Greater x y ys one two e n h = ap (λ l. y ∷ l) h

  put_alike : (x : K) (ys : List K) → list_any (E x) ys ≡ false → put R x ys ≡ put_once R x ys
  put_alike x [] h = refl
  put_alike x (y ∷ ys) h =
      let p = or_parts (E x y) (list_any (E x) ys) h in put_alike_by (R x y) x y ys (put R x ys) (put_once R x ys) refl p.0 (put_alike x ys p.1)

  sorted-counted : (xs : List K) → sorted R (counted xs) ≡ in_order R xs
  unfolding sorted in_order
  sorted-counted [] = refl
  sorted-counted (x ∷ xs) = by (list_any (E x) xs) refl (sorted-counted xs)
    where
      by : (b : Bool) → list_any (E x) xs ≡ b → sorted R (counted xs) ≡ in_order R xs
          → sorted R (cond b (counted xs) (x ∷ counted xs)) ≡ put_once R x (in_order R xs)
      by true e h = h ∙ sym (stays x (in_order R xs) (in_order-sorted o xs) (any-in_order (E x) xs ∙ e))
      by false e h = ap (put R x) h ∙ put_alike x (in_order R xs) (any-in_order (E x) xs ∙ e)

  pub counted_moves : (xs : List K) → IsPermutation (counted xs) (in_order R xs)
  counted_moves xs = subst (λ l. IsPermutation (counted xs) l) (sorted-counted xs) (sorted_moves R (counted xs))
