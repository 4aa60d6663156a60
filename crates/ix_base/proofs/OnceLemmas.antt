-- Lists with the same members, and that only one of them is in order with each member once.
use Rattle.std.proofs.Common.{◌≡◌, Bool, true, false, cond, List, [], ◌∷◌, refl, sym, ap, ◌∙◌, subst, arith, ◌<◌, ⊎_elim, inl, inr, ◌⊎◌}
use Rattle.std.specs.List.{Contains, AllByRecursion, filter}
use Rattle.std.specs.List.Sorted.{IsStrictlySortedBy, IsPermutation}
use Rattle.std.specs.Cmp.{IsTotalOrder}
use Rattle.std.specs.declared.cmp.Ordering.{Ordering}
use Rattle.std.specs.declared.cmp.Ordering.TheVariants.{Less, Equal, Greater}
use Rattle.std.specs.Ordering.{ordering_reverse}
use Rattle.std.proofs.ByRecursion.{All-weaker}
use Rattle.std.proofs.lemmas.List.Elements.{Contains-append_left, Contains-append_right, Contains-append_cases, Contains-push, Contains-push_cases, All-contains, All-from_recursion}
use Rattle.std.proofs.lemmas.List.Sorted.{Contains-permutation, IsPermutation-sym}
use Rattle.std.proofs.lemmas.Map.Keys.{sorted_head, sorted_tail}
use Rattle.ix_base.specs.Once.{SameMembers, put_by, put, in_order}

pub Contains-nil : {X : Type 0} (x : X) → Contains [] x → ⊥
Contains-nil x h = let less : h.0 < 0 = h.1 in omega arith

pub Contains-first : {X : Type 0} (x : X) (xs : List X) → Contains (x ∷ xs) x
Contains-first x xs = Contains-append_left (x ∷ []) xs x (Contains-push [] x)

pub Contains-later : {X : Type 0} (y : X) (xs : List X) (x : X) → Contains xs x → Contains (y ∷ xs) x
Contains-later y xs x h = Contains-append_right (y ∷ []) xs x h

pub Contains-same : {X : Type 0} (y : X) (xs : List X) (x : X) → y ≡ x → Contains (y ∷ xs) x
Contains-same y xs x e = subst (λ z. Contains (y ∷ xs) z) e (Contains-first y xs)

pub Contains-cases : {X : Type 0} (y : X) (xs : List X) (x : X) → Contains (y ∷ xs) x → (y ≡ x) ⊎ Contains xs x
Contains-cases y xs x h = ⊎_elim
    (λ one. ⊎_elim (λ none. absurd (Contains-nil x none)) inl (Contains-push_cases [] y x one))
    inr (Contains-append_cases (y ∷ []) xs x h)

pub SameMembers-permutation : {X : Type 0} (xs ys : List X) → IsPermutation xs ys → SameMembers xs ys
SameMembers-permutation xs ys m = record {
  there = λ x h. Contains-permutation xs ys x m h;
  back = λ x h. Contains-permutation ys xs x (IsPermutation-sym xs ys m) h;
}

pub SameMembers-trans : {X : Type 0} (xs ys zs : List X) → SameMembers xs ys → SameMembers ys zs → SameMembers xs zs
SameMembers-trans xs ys zs m n = record { there = λ x h. n.there x (m.there x h); back = λ x h. m.back x (n.back x h) }

pub SameMembers-sym : {X : Type 0} (xs ys : List X) → SameMembers xs ys → SameMembers ys xs
SameMembers-sym xs ys m = record { there = m.back; back = m.there }

-- what passes a test
module _ {X : Type 0} (p : X → Bool) where
  kept : (b : Bool) (y : X) (xs : List X) (x : X) → b ≡ true → (y ≡ x) ⊎ Contains xs x → Contains (cond b (y ∷ xs) xs) x
  kept true y xs x e h = ⊎_elim (Contains-same y xs x) (Contains-later y xs x) h
  kept false y xs x e h = let f : false ≡ true = e in cc

  kept_later : (b : Bool) (y : X) (xs : List X) (x : X) → Contains xs x → Contains (cond b (y ∷ xs) xs) x
  kept_later true y xs x h = Contains-later y xs x h
  kept_later false y xs x h = h

  pub Contains-filter : (xs : List X) (x : X) → Contains xs x → p x ≡ true → Contains (filter p xs) x
  Contains-filter [] x h e = h
  Contains-filter (y ∷ xs) x h e = ⊎_elim
      (λ q. kept (p y) y (filter p xs) x (ap p q ∙ e) (inl q))
      (λ k. kept_later (p y) y (filter p xs) x (Contains-filter xs x k e))
      (Contains-cases y xs x h)

  from_kept : (b : Bool) (y : X) (xs ys : List X) (x : X) → p y ≡ b → (Contains ys x → Contains xs x × (p x ≡ true))
      → Contains (cond b (y ∷ ys) ys) x → Contains (y ∷ xs) x × (p x ≡ true)
  from_kept true y xs ys x e f h = ⊎_elim
      (λ q. (Contains-same y xs x q, sym (ap p q) ∙ e))
      (λ k. (Contains-later y xs x (f k).0, (f k).1)) (Contains-cases y ys x h)
  from_kept false y xs ys x e f h = (Contains-later y xs x (f h).0, (f h).1)

  pub Contains-from_filter : (xs : List X) (x : X) → Contains (filter p xs) x → Contains xs x × (p x ≡ true)
  Contains-from_filter [] x h = absurd (Contains-nil x h)
  Contains-from_filter (y ∷ xs) x h = from_kept (p y) y xs (filter p xs) x refl (Contains-from_filter xs x) h

-- two strictly sorted lists with the same members are one
module _ {K : Type 0} {R : K → K → Ordering} (o : IsTotalOrder R) where
  later_is_above : (x : K) (xs : List K) (y : K) → IsStrictlySortedBy R (x ∷ xs) → Contains xs y → R x y ≡ Less
  later_is_above x xs y s h = All-contains (λ z. R x z ≡ Less) xs y (All-from_recursion (λ z. R x z ≡ Less) xs (sorted_head R x xs s)) h

  not_both : (x y : K) → R x y ≡ Less → R y x ≡ Less → ⊥
  not_both x y p q = let e : R x y ≡ ordering_reverse (R y x) = o.antisymm x y in let f : Less ≡ Greater = sym p ∙ e ∙ ap ordering_reverse q in cc

  first_is : (x : K) (xs : List K) (y : K) (ys : List K) → IsStrictlySortedBy R (x ∷ xs) → IsStrictlySortedBy R (y ∷ ys)
      → Contains (y ∷ ys) x → Contains (x ∷ xs) y → x ≡ y
  first_is x xs y ys s t p q = ⊎_elim sym
      (λ h. ⊎_elim (λ e. e) (λ k. absurd (not_both x y (later_is_above x xs y s k) (later_is_above y ys x t h))) (Contains-cases x xs y q))
      (Contains-cases y ys x p)

  rest_has : (x : K) (xs : List K) (y : K) (ys : List K) → x ≡ y → IsStrictlySortedBy R (x ∷ xs)
      → ((z : K) → Contains (x ∷ xs) z → Contains (y ∷ ys) z) → (z : K) → Contains xs z → Contains ys z
  rest_has x xs y ys e s h z c = ⊎_elim
      (λ f. let less : R x z ≡ Less = later_is_above x xs z s c in
      let same : x ≡ z = e ∙ f in
      absurd (not_both x z less (subst (λ w. R w x ≡ Less) same (subst (λ w. R x w ≡ Less) (sym same) less))))
      (λ k. k) (Contains-cases y ys z (h z (Contains-later x xs z c)))

  pub one_in_order : (xs ys : List K) → IsStrictlySortedBy R xs → IsStrictlySortedBy R ys → SameMembers xs ys → xs ≡ ys
  one_in_order [] [] s t m = refl
  one_in_order [] (y ∷ ys) s t m = absurd (Contains-nil y (m.back y (Contains-first y ys)))
  one_in_order (x ∷ xs) [] s t m = absurd (Contains-nil x (m.there x (Contains-first x xs)))
  one_in_order (x ∷ xs) (y ∷ ys) s t m =
      let e : x ≡ y = first_is x xs y ys s t (m.there x (Contains-first x xs)) (m.back y (Contains-first y ys)) in
      let r : xs ≡ ys = one_in_order xs ys (sorted_tail R x xs s) (sorted_tail R y ys t) (record {
        there = rest_has x xs y ys e s m.there;
        back = rest_has y ys x xs (sym e) t m.back;
      }) in cc

-- `in_order` sorts strictly
All-put_by : {K : Type 0} (P : K → Type 0) (r : Ordering) (x y : K) (ys behind : List K)
    → P x → P y → AllByRecursion P ys → AllByRecursion P behind → AllByRecursion P (put_by r x y ys behind)
All-put_by P Less x y ys behind px py hs ms = (px, (py, hs))
All-put_by P Equal x y ys behind px py hs ms = (py, hs)
All-put_by P Greater x y ys behind px py hs ms = (py, ms)

All-put : {K : Type 0} (R : K → K → Ordering) (P : K → Type 0) (x : K) (ys : List K) → P x → AllByRecursion P ys → AllByRecursion P (put R x ys)
All-put R P x [] px hs = (px, tt)
All-put R P x (y ∷ ys) px hs = All-put_by P (R x y) x y ys (put R x ys) px hs.0 hs.1 (All-put R P x ys px hs.1)

module _ {K : Type 0} {R : K → K → Ordering} (o : IsTotalOrder R) where
  sorted_by : (r : Ordering) (x y : K) (ys behind : List K) → R x y ≡ r → IsStrictlySortedBy R (y ∷ ys) → IsStrictlySortedBy R behind
      → (R y x ≡ Less → AllByRecursion (λ z. R y z ≡ Less) behind) → IsStrictlySortedBy R (put_by r x y ys behind)
  unfolding IsStrictlySortedBy
  sorted_by Less x y ys behind e s t f = ((e, All-weaker (λ z. R y z ≡ Less) (λ z. R x z ≡ Less) (λ z h. o.trans x y z e h) ys s.0), s)
  sorted_by Equal x y ys behind e s t f = s
  sorted_by Greater x y ys behind e s t f = (f (o.antisymm y x ∙ ap ordering_reverse e), t)

  put-sorted : (x : K) (ys : List K) → IsStrictlySortedBy R ys → IsStrictlySortedBy R (put R x ys)
  unfolding IsStrictlySortedBy
  put-sorted x [] s = (tt, tt)
  put-sorted x (y ∷ ys) s = sorted_by (R x y) x y ys (put R x ys) refl s (put-sorted x ys s.1) (λ e. All-put R (λ z. R y z ≡ Less) x ys e s.0)

  pub in_order-sorted : (xs : List K) → IsStrictlySortedBy R (in_order R xs)
  unfolding in_order IsStrictlySortedBy
  in_order-sorted [] = tt
  in_order-sorted (x ∷ xs) = put-sorted x (in_order R xs) (in_order-sorted xs)

-- `in_order` keeps the members, where what ties is one
module _ {K : Type 0} {R : K → K → Ordering} (same : (x y : K) → R x y ≡ Equal → x ≡ y) where
  by_has : (r : Ordering) (x y : K) (ys behind : List K) → R x y ≡ r → Contains behind x → Contains (put_by r x y ys behind) x
  by_has Less x y ys behind e h = Contains-first x (y ∷ ys)
  by_has Equal x y ys behind e h = Contains-same y ys x (sym (same x y e))
  by_has Greater x y ys behind e h = Contains-later y behind x h

  put_has : (x : K) (ys : List K) → Contains (put R x ys) x
  put_has x [] = Contains-first x []
  put_has x (y ∷ ys) = by_has (R x y) x y ys (put R x ys) refl (put_has x ys)

  by_keeps : (r : Ordering) (x y : K) (ys behind : List K) (z : K) → (Contains ys z → Contains behind z) → Contains (y ∷ ys) z → Contains (put_by r x y ys behind) z
  by_keeps Less x y ys behind z f h = Contains-later x (y ∷ ys) z h
  by_keeps Equal x y ys behind z f h = h
  by_keeps Greater x y ys behind z f h = ⊎_elim (Contains-same y behind z) (λ k. Contains-later y behind z (f k)) (Contains-cases y ys z h)

  put_keeps : (x : K) (ys : List K) (z : K) → Contains ys z → Contains (put R x ys) z
  put_keeps x [] z h = absurd (Contains-nil z h)
  put_keeps x (y ∷ ys) z h = by_keeps (R x y) x y ys (put R x ys) z (put_keeps x ys z) h

  by_adds : (r : Ordering) (x y : K) (ys behind : List K) (z : K) → (Contains behind z → (x ≡ z) ⊎ Contains ys z) → Contains (put_by r x y ys behind) z → (x ≡ z) ⊎ Contains (y ∷ ys) z
  by_adds Less x y ys behind z f h = Contains-cases x (y ∷ ys) z h
  by_adds Equal x y ys behind z f h = inr h
  by_adds Greater x y ys behind z f h = ⊎_elim (λ e. inr (Contains-same y ys z e))
      (λ k. ⊎_elim inl (λ c. inr (Contains-later y ys z c)) (f k)) (Contains-cases y behind z h)

  put_adds : (x : K) (ys : List K) (z : K) → Contains (put R x ys) z → (x ≡ z) ⊎ Contains ys z
  put_adds x [] z h = Contains-cases x [] z h
  put_adds x (y ∷ ys) z h = by_adds (R x y) x y ys (put R x ys) z (put_adds x ys z) h

  in_order-there : (xs : List K) (z : K) → Contains xs z → Contains (in_order R xs) z
  unfolding in_order
  in_order-there [] z h = h
  in_order-there (x ∷ xs) z h = ⊎_elim (λ e. subst (λ w. Contains (put R x (in_order R xs)) w) e (put_has x (in_order R xs)))
      (λ k. put_keeps x (in_order R xs) z (in_order-there xs z k)) (Contains-cases x xs z h)

  in_order-back : (xs : List K) (z : K) → Contains (in_order R xs) z → Contains xs z
  unfolding in_order
  in_order-back [] z h = h
  in_order-back (x ∷ xs) z h = ⊎_elim (Contains-same x xs z) (λ k. Contains-later x xs z (in_order-back xs z k)) (put_adds x (in_order R xs) z h)

  pub in_order-members : (xs : List K) → SameMembers xs (in_order R xs)
  in_order-members xs = record { there = in_order-there xs; back = in_order-back xs }

  -- whatever is strictly sorted with the members of xs is `in_order` of xs
  pub is_in_order : IsTotalOrder R → (xs ys : List K) → IsStrictlySortedBy R ys → SameMembers xs ys → ys ≡ in_order R xs
  is_in_order o xs ys s m = one_in_order o ys (in_order R xs) s (in_order-sorted o xs)
      (SameMembers-trans ys xs (in_order R xs) (SameMembers-sym xs ys m) (in_order-members xs))

  pub in_order-same : IsTotalOrder R → (xs ys : List K) → SameMembers xs ys → in_order R xs ≡ in_order R ys
  in_order-same o xs ys m = is_in_order o ys (in_order R xs) (in_order-sorted o xs)
      (SameMembers-trans ys xs (in_order R xs) (SameMembers-sym xs ys m) (in_order-members xs))
