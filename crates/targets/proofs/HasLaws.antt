-- What lists have, and tests of all that they have.
use Rattle.std.proofs.Common.{◌≡◌, ◌∙◌, ap, refl, subst, sym, ℕ, Bool, true, false, List, [], ◌∷◌, ⊎_elim, inl, inr, ◌⊎◌}
use Rattle.std.specs.List.{Contains, list_all, list_any}
use Rattle.std.specs.List.Sorted.{IsStrictlySortedBy}
use Rattle.std.specs.Cmp.{IsTotalOrder}
use Rattle.std.specs.Ordering.{is_gt, is_lt}
use Rattle.std.specs.Prelude.{bytes_eq, not, ◌||◌}
use Rattle.std.specs.declared.cmp.Ordering.{Ordering}
use Rattle.std.specs.declared.cmp.Ordering.TheVariants.{Less, Equal, Greater}
use Rattle.std.proofs.lemmas.Bool.{and_from, and_parts, or_from, or_left, or_right}
use Rattle.std.proofs.lemmas.Slice.Eq.{bytes_eq-Decides}
use Rattle.ix_base.specs.Once.{in_order, put as put_once, put_by as put_once_by}
use Rattle.ix_base.specs.SortedLists.{put, put_by, sorted, text_cmp}
use Rattle.ix_base.proofs.OnceLemmas.{Contains-cases, Contains-first, Contains-later, Contains-nil, Contains-same, in_order-members}
use Rattle.ix_base.proofs.OnceOrdered.{same_text}
use Rattle.instance_lines.specs.Lists.{has, rises, strictly}
use Rattle.instance_lines.proofs.ArrangedLaws.{Rises}

-- Tests.

pub all-at : {X : Type 0} (p : X → Bool) (xs : List X) → list_all p xs ≡ true → (x : X) → Contains xs x → p x ≡ true
all-at p [] h x k = absurd (Contains-nil x k)
all-at p (y ∷ xs) h x k =
    let both = and_parts (p y) (list_all p xs) h in
    ⊎_elim (λ (e : y ≡ x). subst (λ z. p z ≡ true) e both.0) (λ later. all-at p xs both.1 x later) (Contains-cases y xs x k)

-- none passes
pub none-any : {X : Type 0} (p : X → Bool) (xs : List X) → list_any p xs ≡ false → (x : X) → Contains xs x → p x ≡ false
none-any p [] h x k = absurd (Contains-nil x k)
none-any {X} p (y ∷ xs) h x k = by (p y) refl (λ g later. none-any p xs g x later) h
  where
    by : (b : Bool) → p y ≡ b → (list_any p xs ≡ false → Contains xs x → p x ≡ false) → (b || list_any p xs) ≡ false → p x ≡ false
    by true e rest g = absurd (cc)
    by false e rest g = ⊎_elim (λ (q : y ≡ x). subst (λ z. p z ≡ false) q e) (rest g) (Contains-cases y xs x k)

pub any-none : {X : Type 0} (p : X → Bool) (xs : List X) → ((x : X) → Contains xs x → p x ≡ false) → list_any p xs ≡ false
any-none p [] h = refl
any-none p (x ∷ xs) h = or_from (p x) (list_any p xs) (h x (Contains-first x xs)) (any-none p xs (λ y k. h y (Contains-later x xs y k)))

-- Texts that lists have.

pub has-is : (ids : List (List ℕ)) (id : List ℕ) → Contains ids id → has ids id ≡ true
has-is [] id h = absurd (Contains-nil id h)
has-is (x ∷ ids) id h = ⊎_elim
    (λ (e : x ≡ id). or_left (bytes_eq x id) (has ids id) ((bytes_eq-Decides x id).1 e))
    (λ k. or_right (bytes_eq x id) (has ids id) (has-is ids id k)) (Contains-cases x ids id h)

-- Lists in order, with repeats.

module _ {X : Type 0} (R : X → X → Ordering) where
  put_by-from : (r : Ordering) (x y : X) (ys behind : List X) (z : X) → (Contains behind z → (x ≡ z) ⊎ Contains ys z) → Contains (put_by r x y ys behind) z
      → (x ≡ z) ⊎ Contains (y ∷ ys) z
  put_by-from Less x y ys behind z f h = Contains-cases x (y ∷ ys) z h
  put_by-from Equal x y ys behind z f h = Contains-cases x (y ∷ ys) z h
  put_by-from Greater x y ys behind z f h = ⊎_elim
      (λ e. inr (Contains-same y ys z e))
      (λ k. ⊎_elim inl (λ c. inr (Contains-later y ys z c)) (f k)) (Contains-cases y behind z h)

  put-from : (x : X) (ys : List X) (z : X) → Contains (put R x ys) z → (x ≡ z) ⊎ Contains ys z
  put-from x [] z h = Contains-cases x [] z h
  put-from x (y ∷ ys) z h = put_by-from (R x y) x y ys (put R x ys) z (put-from x ys z) h

  pub from-sorted : (xs : List X) (z : X) → Contains (sorted R xs) z → Contains xs z
  unfolding sorted
  from-sorted [] z h = h
  from-sorted (x ∷ xs) z h = ⊎_elim
      (λ e. Contains-same x xs z e)
      (λ k. Contains-later x xs z (from-sorted xs z k)) (put-from x (sorted R xs) z h)

  -- Lists in order, each once.

  once_by-from : (r : Ordering) (x y : X) (ys behind : List X) (z : X) → (Contains behind z → (x ≡ z) ⊎ Contains ys z) → Contains (put_once_by r x y ys behind) z
      → (x ≡ z) ⊎ Contains (y ∷ ys) z
  once_by-from Less x y ys behind z f h = Contains-cases x (y ∷ ys) z h
  once_by-from Equal x y ys behind z f h = inr h
  once_by-from Greater x y ys behind z f h = ⊎_elim
      (λ e. inr (Contains-same y ys z e))
      (λ k. ⊎_elim inl (λ c. inr (Contains-later y ys z c)) (f k)) (Contains-cases y behind z h)

  pub once-from : (x : X) (ys : List X) (z : X) → Contains (put_once R x ys) z → (x ≡ z) ⊎ Contains ys z
  once-from x [] z h = Contains-cases x [] z h
  once-from x (y ∷ ys) z h = once_by-from (R x y) x y ys (put_once R x ys) z (once-from x ys z) h

  pub from-order : (xs : List X) (z : X) → Contains (in_order R xs) z → Contains xs z
  unfolding in_order
  from-order [] z h = h
  from-order (x ∷ xs) z h = ⊎_elim
      (λ e. Contains-same x xs z e)
      (λ k. Contains-later x xs z (from-order xs z k)) (once-from x (in_order R xs) z h)

  -- one that ties with z
  abbrev pub HasTie : List X → X → Type 0
  HasTie ys z = (y : X) × Contains ys y × (R z y ≡ Equal)

  tie-later : (y : X) (ys : List X) (z : X) → HasTie ys z → HasTie (y ∷ ys) z
  tie-later y ys z h = (h.0, Contains-later y ys h.0 h.1, h.2)

  once_by-in : (r : Ordering) (x y : X) (ys behind : List X) (z : X) → HasTie (y ∷ ys) z → (HasTie ys z → HasTie behind z) → HasTie (put_once_by r x y ys behind) z
  once_by-in Less x y ys behind z h f = tie-later x (y ∷ ys) z h
  once_by-in Equal x y ys behind z h f = h
  once_by-in Greater x y ys behind z h f = ⊎_elim
      (λ (e : y ≡ h.0). (y, Contains-first y behind, subst (λ w. R z w ≡ Equal) (sym e) h.2))
      (λ k. tie-later y behind z (f (h.0, k, h.2))) (Contains-cases y ys h.0 h.1)

  once-keeps : (x : X) (ys : List X) (z : X) → HasTie ys z → HasTie (put_once R x ys) z
  once-keeps x [] z h = absurd (Contains-nil h.0 h.1)
  once-keeps x (y ∷ ys) z h = once_by-in (R x y) x y ys (put_once R x ys) z h (once-keeps x ys z)

  once_by-itself : (r : Ordering) (x y : X) (ys behind : List X) → R x x ≡ Equal → R x y ≡ r → HasTie behind x → HasTie (put_once_by r x y ys behind) x
  once_by-itself Less x y ys behind s e h = (x, Contains-first x (y ∷ ys), s)
  once_by-itself Equal x y ys behind s e h = (y, Contains-first y ys, e)
  once_by-itself Greater x y ys behind s e h = tie-later y behind x h

  once-itself : (x : X) (ys : List X) → R x x ≡ Equal → HasTie (put_once R x ys) x
  once-itself x [] s = (x, Contains-first x [], s)
  once-itself x (y ∷ ys) s = once_by-itself (R x y) x y ys (put_once R x ys) s refl (once-itself x ys s)

  pub in-order : ((x : X) → R x x ≡ Equal) → (xs : List X) (z : X) → Contains xs z → HasTie (in_order R xs) z
  unfolding in_order
  in-order s [] z h = absurd (Contains-nil z h)
  in-order s (x ∷ xs) z h = ⊎_elim
      (λ (e : x ≡ z). subst (HasTie (put_once R x (in_order R xs))) e (once-itself x (in_order R xs) (s x)))
      (λ k. once-keeps x (in_order R xs) z (in-order s xs z k)) (Contains-cases x xs z h)

  -- Order, tested.

  pub strictly-is : (xs : List X) → IsStrictlySortedBy R xs → strictly R xs ≡ true
  unfolding IsStrictlySortedBy
  strictly-is [] h = refl
  strictly-is (x ∷ []) h = refl
  strictly-is (x ∷ y ∷ ys) h = and_from (is_lt (R x y)) (strictly R (y ∷ ys)) (ap is_lt h.0.0) (strictly-is (y ∷ ys) h.1)

  not-greater : (r : Ordering) → (r ≡ Greater → ⊥) → not (is_gt r) ≡ true
  not-greater Less h = refl
  not-greater Equal h = refl
  not-greater Greater h = absurd (h refl)

  pub rises-is : (o : IsTotalOrder R) (xs : List X) → Rises o xs → rises R xs ≡ true
  rises-is o [] h = refl
  rises-is o (x ∷ []) h = refl
  rises-is o (x ∷ y ∷ ys) h = and_from (not (is_gt (R x y))) (rises R (y ∷ ys)) (not-greater (R x y) h.0) (rises-is o (y ∷ ys) h.1)

  -- what rises strictly rises
  pub strict-rises : (o : IsTotalOrder R) (xs : List X) → IsStrictlySortedBy R xs → Rises o xs
  unfolding IsStrictlySortedBy
  strict-rises o [] h = tt
  strict-rises o (x ∷ []) h = (tt, tt)
  strict-rises o (x ∷ y ∷ ys) h = ((λ f. let q : Less ≡ Greater = sym h.0.0 ∙ f in cc), strict-rises o (y ∷ ys) h.1)

-- texts in order, each once, have what the texts have
pub in-texts : (xs : List (List ℕ)) (z : List ℕ) → Contains xs z → Contains (in_order text_cmp xs) z
in-texts xs z h = (in_order-members same_text xs).there z h
