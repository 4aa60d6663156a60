-- What a stable sort gives is the sorted list: a stable sort has one answer, and the sorted list is one. And sorted lists of
-- what others say.
use Rattle.std.proofs.Common.{◌≡◌, ◌∙◌, ap, sym, refl, subst, ℕ, suc, ◌≤◌, ◌<◌, Bool, true, false, cond, List, [], ◌∷◌, length, map, get_or, arith}
use Rattle.std.specs.List.{filter}
use Rattle.std.specs.List.Sorted.{IsSortedBy, IsStableBy, ties}
use Rattle.std.specs.Cmp.{IsStrictWeakOrder, IsTotalOrder}
use Rattle.std.specs.Ordering.{is_lt, ordering_reverse}
use Rattle.std.specs.declared.cmp.Ordering.{Ordering}
use Rattle.std.specs.declared.cmp.Ordering.TheVariants.{Less, Equal, Greater}
use Rattle.std.proofs.lemmas.List.Sorted.{ranks_by, sorted_far}
use Rattle.ix_base.specs.SortedLists.{put_by, put, sorted}

module _ {X : Type 0} (lt : X → X → Bool) (irr : (x : X) → lt x x ≡ false) (far : (x y w : X) → lt x y ≡ true → lt w y ≡ false → lt x w ≡ true) where
  -- none of these is below it
  abbrev NoneBelow : X → List X → Type 0
  NoneBelow y [] = Unit {0}
  NoneBelow y (w ∷ ws) = (lt w y ≡ false) × NoneBelow y ws

  abbrev Rises : List X → Type 0
  Rises [] = Unit {0}
  Rises (y ∷ ys) = NoneBelow y ys × Rises ys

  self-ties : (x : X) → ties lt x x ≡ true
  self-ties x = rw (irr x) refl

  below-none : (z y : X) (ys : List X) → lt z y ≡ true → NoneBelow y ys → filter (ties lt z) ys ≡ []
  below-none z y [] h b = refl
  below-none z y (w ∷ ws) h b = rw (far z y w h b.0) (below-none z y ws h b.1)

  kept-self : (x : X) (xs : List X) → filter (ties lt x) (x ∷ xs) ≡ x ∷ filter (ties lt x) xs
  kept-self x xs = rw (self-ties x) refl

  not-below : (y z : X) (ys zs : List X) → NoneBelow y ys → filter (ties lt z) (y ∷ ys) ≡ filter (ties lt z) (z ∷ zs) → lt z y ≡ false
  not-below y z ys zs b e = elim (lt z y) as (λ x. lt z y ≡ x → lt z y ≡ false) [
    | true ↦ λ h. absurd (let q : [] ≡ z ∷ filter (ties lt z) zs = sym (below-none z y (y ∷ ys) h (irr y, b)) ∙ e ∙ kept-self z zs in cc)
    | false ↦ λ h. h
  ] refl

  same-head : (y z : X) (ys zs : List X) → NoneBelow y ys → NoneBelow z zs → ((x : X) → filter (ties lt x) (y ∷ ys) ≡ filter (ties lt x) (z ∷ zs)) → y ≡ z
  same-head y z ys zs b d e =
      let h = not-below y z ys zs b (e z) in
      let k = not-below z y zs ys d (sym (e y)) in
      let t : ties lt y z ≡ true = rw (k, h) refl in
      let q : y ∷ filter (ties lt y) ys ≡ z ∷ filter (ties lt y) zs = sym (kept-self y ys) ∙ e y ∙ ap (λ b. cond b (z ∷ filter (ties lt y) zs) (filter (ties lt y) zs)) t in
      cc

  same-tail : (b : Bool) (y : X) (p q : List X) → cond b (y ∷ p) p ≡ cond b (y ∷ q) q → p ≡ q
  same-tail true y p q e = cc
  same-tail false y p q e = e

  one_order : (ys zs : List X) → Rises ys → Rises zs → ((x : X) → filter (ties lt x) ys ≡ filter (ties lt x) zs) → ys ≡ zs
  one_order [] [] r s e = refl
  one_order [] (z ∷ zs) r s e = absurd (let q : [] ≡ z ∷ filter (ties lt z) zs = e z ∙ kept-self z zs in cc)
  one_order (y ∷ ys) [] r s e = absurd (let q : y ∷ filter (ties lt y) ys ≡ [] = sym (kept-self y ys) ∙ e y in cc)
  one_order (y ∷ ys) (z ∷ zs) r s e =
      let h = same-head y z ys zs r.0 s.0 e in
      let rest = one_order ys zs r.1 s.1 (λ x. same-tail (ties lt x y) y _ _ (subst (λ w. filter (ties lt x) (y ∷ ys) ≡ filter (ties lt x) (w ∷ zs)) (sym h) (e x))) in
      cc

module _ {X : Type 0} (R : X → X → Ordering) (o : IsTotalOrder R) where
  abbrev pub lt : X → X → Bool
  lt x y = is_lt (R x y)

  order : IsStrictWeakOrder lt
  order = ranks_by o (λ (x : X). x)

  irr : (x : X) → lt x x ≡ false
  irr x = elim (lt x x) as (λ b. lt x x ≡ b → lt x x ≡ false) [ true ↦ λ h. order.one_way x x h | false ↦ λ h. h ] refl

  far : (x y w : X) → lt x y ≡ true → lt w y ≡ false → lt x w ≡ true
  far x y w h k = elim (lt x w) as (λ b. lt x w ≡ b → lt x w ≡ true) [
    | true ↦ λ e. e
    | false ↦ λ e. absurd (let z : true ≡ false = sym h ∙ order.chain x w y e k in cc)
  ] refl

  abbrev Below : X → List X → Type 0
  Below = NoneBelow lt irr far

  abbrev AreRising : List X → Type 0
  AreRising = Rises lt irr far

  below_too : (x y : X) (ws : List X) → lt y x ≡ false → Below y ws → Below x ws
  below_too x y [] h b = tt
  below_too x y (w ∷ ws) h b = (order.chain w y x b.0 h, below_too x y ws h b.1)

  below_put : (x y : X) (ws : List X) → lt x y ≡ false → Below y ws → Below y (put R x ws)
  below_put x y [] h b = (h, tt)
  below_put x y (w ∷ ws) h b = elim (R x w) as (λ r. Below y (put_by r x w ws (put R x ws))) [
    | Less ↦ (h, b)
    | Equal ↦ (h, b)
    | Greater ↦ (b.0, below_put x y ws h b.1)
  ]

  not_less : (x y : X) (r : Ordering) → R x y ≡ r → is_lt (ordering_reverse r) ≡ false → lt y x ≡ false
  not_less x y r e h = ap is_lt (o.antisymm y x ∙ ap ordering_reverse e) ∙ h

  put_rises : (x : X) (ys : List X) → AreRising ys → AreRising (put R x ys)
  put_rises x [] s = (tt, tt)
  put_rises x (y ∷ ys) s = elim (R x y) as (λ r. R x y ≡ r → AreRising (put_by r x y ys (put R x ys))) [
    | Less ↦ λ e. let h = not_less x y Less e refl in ((h, below_too x y ys h s.0), s)
    | Equal ↦ λ e. let h = not_less x y Equal e refl in ((h, below_too x y ys h s.0), s)
    | Greater ↦ λ e. (below_put x y ys (ap is_lt e) s.0, put_rises x ys s.1)
  ] refl

  sorted_rises : (xs : List X) → AreRising (sorted R xs)
  unfolding sorted
  sorted_rises [] = tt
  sorted_rises (x ∷ xs) = put_rises x (sorted R xs) (sorted_rises xs)

  both_tie : (z x y : X) → ties lt z x ≡ true → ties lt z y ≡ true → lt y x ≡ false
  both_tie z x y p q =
      elim (lt y x) as (λ b. lt y x ≡ b → lt y x ≡ false) [
        | true ↦ λ h. absurd (let k : lt y z ≡ true = far y x z h (not_above z x p) in let n = not_below z y q in let w : true ≡ false = sym k ∙ n in cc)
        | false ↦ λ h. h
      ] refl
    where
      not_above : (z x : X) → ties lt z x ≡ true → lt z x ≡ false
      not_above z x e = elim (lt z x) as (λ b. (lt z x ≡ b) → lt z x ≡ false) [ true ↦ λ h. absurd (let w : ties lt z x ≡ false = rw h refl in let v : true ≡ false = sym e ∙ w in cc) | false ↦ λ h. h ] refl

      not_below : (z y : X) → ties lt z y ≡ true → lt y z ≡ false
      not_below z y e = elim (lt y z) as (λ b. (lt y z ≡ b) → lt y z ≡ false) [ true ↦ λ h. absurd (let w : ties lt z y ≡ false = elim (lt z y) as (λ b. (lt z y ≡ b) → ties lt z y ≡ false) [ true ↦ λ k. rw k refl | false ↦ λ k. rw (k, h) refl ] refl in let v : true ≡ false = sym e ∙ w in cc) | false ↦ λ h. h ] refl

  exchanged : (s t : Bool) (x y : X) (F : List X) → (s ≡ true → t ≡ true → ⊥) → cond t (y ∷ cond s (x ∷ F) F) (cond s (x ∷ F) F) ≡ cond s (x ∷ cond t (y ∷ F) F) (cond t (y ∷ F) F)
  exchanged true true x y F h = absurd (h refl refl)
  exchanged true false x y F h = refl
  exchanged false true x y F h = refl
  exchanged false false x y F h = refl

  put_ties : (z x : X) (ys : List X) → filter (ties lt z) (put R x ys) ≡ filter (ties lt z) (x ∷ ys)
  put_ties z x [] = refl
  put_ties z x (y ∷ ys) = elim (R x y) as (λ r. R x y ≡ r → filter (ties lt z) (put_by r x y ys (put R x ys)) ≡ filter (ties lt z) (x ∷ y ∷ ys)) [
    | Less ↦ λ e. refl
    | Equal ↦ λ e. refl
    | Greater ↦ λ e.
        ap (λ f. cond (ties lt z y) (y ∷ f) f) (put_ties z x ys)
        ∙ exchanged (ties lt z x) (ties lt z y) x y (filter (ties lt z) ys)
        (λ p q. let above : lt y x ≡ true = ap is_lt (o.antisymm y x ∙ ap ordering_reverse e) in let v : true ≡ false = sym above ∙ both_tie z x y p q in cc)
  ] refl

  sorted_ties : (z : X) (xs : List X) → filter (ties lt z) (sorted R xs) ≡ filter (ties lt z) xs
  unfolding sorted
  sorted_ties z [] = refl
  sorted_ties z (x ∷ xs) = put_ties z x (sorted R xs) ∙ ap (λ f. cond (ties lt z x) (x ∷ f) f) (sorted_ties z xs)

  none_below : (y : X) (ys : List X) → ((k : ℕ) (d : X) → k < length ys → lt (get_or ys k d) y ≡ false) → Below y ys
  none_below y [] h = tt
  none_below y (w ∷ ws) h = (h 0 y (omega arith), none_below y ws (λ k d within. h (suc k) d (omega arith)))

  from_far : (ys : List X) → ((i j : ℕ) (d : X) → i ≤ j → j < length ys → lt (get_or ys j d) (get_or ys i d) ≡ false) → AreRising ys
  from_far [] h = tt
  from_far (y ∷ ys) h =
      (none_below y ys (λ k d within. h 0 (suc k) d (omega arith) (omega arith)), from_far ys (λ i j d le within. h (suc i) (suc j) d (omega arith) (omega arith)))

  -- what a stable sort gives is the sorted list
  pub stable_is_sorted : (xs ys : List X) → IsSortedBy lt ys → IsStableBy lt xs ys → ys ≡ sorted R xs
  stable_is_sorted xs ys up stable =
      one_order lt irr far ys (sorted R xs) (from_far ys (sorted_far lt order ys up)) (sorted_rises xs) (λ z. stable z ∙ sym (sorted_ties z xs))

put-by : {X Y : Type 0} (f : X → Y) (r : Ordering) (x y : X) (ys more : List X) → put_by r (f x) (f y) (map f ys) (map f more) ≡ map f (put_by r x y ys more)
put-by f Less x y ys more = refl
put-by f Equal x y ys more = refl
put-by f Greater x y ys more = refl

put-map : {X Y : Type 0} (R : X → X → Ordering) (S : Y → Y → Ordering) (f : X → Y) → ((x y : X) → S (f x) (f y) ≡ R x y)
    → (x : X) (ys : List X) → put S (f x) (map f ys) ≡ map f (put R x ys)
put-map R S f h x [] = refl
put-map R S f h x (y ∷ ys) = (λ i. put_by (h x y i) (f x) (f y) (map f ys) (put-map R S f h x ys i)) ∙ put-by f (R x y) x y ys (put R x ys)

-- what is sorted by what it says is sorted
pub sorted-map : {X Y : Type 0} (R : X → X → Ordering) (S : Y → Y → Ordering) (f : X → Y) → ((x y : X) → S (f x) (f y) ≡ R x y)
    → (xs : List X) → sorted S (map f xs) ≡ map f (sorted R xs)
unfolding sorted
sorted-map R S f h [] = refl
sorted-map R S f h (x ∷ xs) = ap (put S (f x)) (sorted-map R S f h xs) ∙ put-map R S f h x (sorted R xs)
