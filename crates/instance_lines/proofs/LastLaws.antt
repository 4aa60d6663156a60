-- The last of those that tie, in a list that is in order.
use Rattle.std.proofs.Common.{◌≡◌, ◌∙◌, ap, sym, refl, ℕ, suc, zero, Bool, true, false, cond, List, [], ◌∷◌, ◌++◌, length, take, ◌-◌}
use Rattle.std.proofs.Common.{Some, None, arith}
use Rattle.std.specs.Prelude.{slice_get}
use Rattle.std.specs.Cmp.{IsTotalOrder}
use Rattle.std.specs.declared.cmp.Ordering.{Ordering}
use Rattle.std.specs.declared.cmp.Ordering.TheVariants.{Less, Equal, Greater}
use Rattle.std.specs.Ordering.{is_eq, ordering_reverse}
use Rattle.ix_base.specs.Once.{put as put_once, put_by as put_once_by, in_order}
use Rattle.ix_base.specs.SortedLists.{put, put_by, sorted}
use Rattle.instance_lines.specs.Keys.{lasts, ties_last, with_last}

module _ {X : Type 0} (R : X → X → Ordering) where
  -- what is left of a list that isn't empty isn't empty
  front_put : (b : Bool) (x y z : X) (zs : List X)
      → with_last R (cond b (z ∷ zs) (x ∷ z ∷ zs)) y ≡ cond b (with_last R (z ∷ zs) y) (x ∷ with_last R (z ∷ zs) y)
  front_put true x y z zs = refl
  front_put false x y z zs = refl

  first_left : (x : X) (xs : List X) → (z : X) × ((zs : List X) × (lasts R (x ∷ xs) ≡ z ∷ zs))
  first_left x [] = (x, ([], refl))
  first_left x (y ∷ ys) = let rest = first_left y ys in pick (is_eq (R x y)) rest
    where
      pick : (b : Bool) → ((z : X) × ((zs : List X) × (lasts R (y ∷ ys) ≡ z ∷ zs)))
          → (z : X) × ((zs : List X) × (cond b (lasts R (y ∷ ys)) (x ∷ lasts R (y ∷ ys)) ≡ z ∷ zs))
      pick true r = r
      pick false r = (x, (lasts R (y ∷ ys), refl))

  kept_front : (b : Bool) (a x : X) (L : List X) (z : X) (zs : List X) → L ≡ z ∷ zs
      → cond b (with_last R L x) (a ∷ with_last R L x) ≡ with_last R (cond b L (a ∷ L)) x
  kept_front b a x L z zs e =
      ap (λ l. cond b (with_last R l x) (a ∷ with_last R l x)) e ∙ sym (front_put b a x z zs)
      ∙ ap (λ l. with_last R (cond b l (a ∷ l)) x) (sym e)

  -- one more at the end
  pub lasts-push : (xs : List X) (x : X) → lasts R (xs ++ x ∷ []) ≡ with_last R (lasts R xs) x
  lasts-push [] x = refl
  lasts-push (a ∷ []) x = refl
  lasts-push (a ∷ b ∷ bs) x =
      let l = first_left b bs in
      ap (λ l. cond (is_eq (R a b)) l (a ∷ l)) (lasts-push (b ∷ bs) x)
      ∙ kept_front (is_eq (R a b)) a x (lasts R (b ∷ bs)) l.0 l.1.0 l.1.1

  -- whether the last of some things ties

  pub ties_last-is : (ks : List X) (n : ℕ) (y x : X) → n ≡ length ks - 1 → slice_get ks n ≡ Some y → ties_last R ks x ≡ is_eq (R y x)
  ties_last-is [] n y x h e = absurd (let q : None ≡ Some y = e in cc)
  ties_last-is (k ∷ []) zero y x h e = let p : Some k ≡ Some y = e in let q : k ≡ y = cc in ap (λ z. is_eq (R z x)) q
  ties_last-is (k ∷ []) (suc n) y x h e = absurd (omega arith)
  ties_last-is (k ∷ z ∷ zs) zero y x h e = absurd (omega arith)
  ties_last-is (k ∷ z ∷ zs) (suc n) y x h e = ties_last-is (z ∷ zs) n y x (omega arith) e

  pub ties_last-none : (ks : List X) (n : ℕ) (x : X) → n ≡ length ks - 1 → slice_get ks n ≡ None → ties_last R ks x ≡ false
  ties_last-none [] n x h e = refl
  ties_last-none (k ∷ []) zero x h e = absurd (let q : Some k ≡ None = e in cc)
  ties_last-none (k ∷ []) (suc n) x h e = absurd (omega arith)
  ties_last-none (k ∷ z ∷ zs) zero x h e = absurd (omega arith)
  ties_last-none (k ∷ z ∷ zs) (suc n) x h e = ties_last-none (z ∷ zs) n x (omega arith) e

  pub with_last-tie : (ks : List X) (n : ℕ) (x : X) → n ≡ length ks - 1 → ties_last R ks x ≡ true → with_last R ks x ≡ take n ks ++ x ∷ []
  with_last-tie [] n x h e = absurd (let q : false ≡ true = e in cc)
  with_last-tie (k ∷ []) zero x h e = ap (λ b. cond b (x ∷ []) (k ∷ x ∷ [])) e
  with_last-tie (k ∷ []) (suc n) x h e = absurd (omega arith)
  with_last-tie (k ∷ z ∷ zs) zero x h e = absurd (omega arith)
  with_last-tie (k ∷ z ∷ zs) (suc n) x h e = ap (λ l. k ∷ l) (with_last-tie (z ∷ zs) n x (omega arith) e)

  pub with_last-behind : (ks : List X) (x : X) → ties_last R ks x ≡ false → with_last R ks x ≡ ks ++ x ∷ []
  with_last-behind [] x e = refl
  with_last-behind (k ∷ []) x e = ap (λ b. cond b (x ∷ []) (k ∷ x ∷ [])) e
  with_last-behind (k ∷ z ∷ zs) x e = ap (λ l. k ∷ l) (with_last-behind (z ∷ zs) x e)

module _ {X : Type 0} {R : X → X → Ordering} (o : IsTotalOrder R) where
  self_reverse : (r : Ordering) → r ≡ ordering_reverse r → r ≡ Equal
  self_reverse Less e = let q : Less ≡ Greater = e in cc
  self_reverse Equal e = refl
  self_reverse Greater e = let q : Greater ≡ Less = e in cc

  self_ties : (x : X) → R x x ≡ Equal
  self_ties x = self_reverse (R x x) (o.antisymm x x)

  -- two that tie compare alike
  alike : (x y z : X) → R y z ≡ Equal → R x y ≡ R x z
  alike x y z e = o.antisymm x y ∙ ap ordering_reverse (o.congr y z x e) ∙ sym (o.antisymm x z)

  -- the first that is left ties with the first
  first_ties : (x : X) (xs : List X) → (z : X) × ((zs : List X) × ((lasts R (x ∷ xs) ≡ z ∷ zs) × (R x z ≡ Equal)))
  first_ties x [] = (x, ([], (refl, self_ties x)))
  first_ties x (y ∷ ys) = pick (R x y) refl (first_ties y ys)
    where
      pick : (r : Ordering) → R x y ≡ r → ((z : X) × ((zs : List X) × ((lasts R (y ∷ ys) ≡ z ∷ zs) × (R y z ≡ Equal))))
          → (z : X) × ((zs : List X) × ((cond (is_eq r) (lasts R (y ∷ ys)) (x ∷ lasts R (y ∷ ys)) ≡ z ∷ zs) × (R x z ≡ Equal)))
      pick Less e r = (x, (lasts R (y ∷ ys), (refl, self_ties x)))
      pick Equal e r = (r.0, (r.1.0, (r.1.1.0, sym (alike x y r.0 r.1.1.1) ∙ e)))
      pick Greater e r = (x, (lasts R (y ∷ ys), (refl, self_ties x)))

  above : (x y : X) → R x y ≡ Greater → R y x ≡ Less
  above x y e = o.antisymm y x ∙ ap ordering_reverse e

  behind : (b : Bool) (x y : X) (left : List X) → R x y ≡ Greater
      → cond b (put_once R x left) (y ∷ put_once R x left) ≡ put_once R x (cond b left (y ∷ left))
  behind true x y left e = refl
  behind false x y left e = sym (ap (λ r. put_once_by r x y left (put_once R x left)) e)

  -- x behind y, and in front of the next
  between : (x y w : X) (ws : List X) → R x y ≡ Greater → R y w ≡ Less → lasts R (x ∷ w ∷ ws) ≡ put_once R x (lasts R (w ∷ ws))
      → lasts R (y ∷ x ∷ w ∷ ws) ≡ put_once R x (lasts R (y ∷ w ∷ ws))
  between x y w ws e f h =
      let left = lasts R (w ∷ ws) in
      ap (λ r. cond (is_eq r) (lasts R (x ∷ w ∷ ws)) (y ∷ lasts R (x ∷ w ∷ ws))) (above x y e) ∙ ap (λ l. y ∷ l) h
      ∙ behind false x y left e ∙ sym (ap (λ r. put_once R x (cond (is_eq r) left (y ∷ left))) f)

  by_second : (x y w : X) (ws : List X) (r : Ordering) → R x y ≡ Greater → R x w ≡ r
      → lasts R (put_by r x w ws (put R x ws)) ≡ put_once R x (lasts R (w ∷ ws))
      → lasts R (y ∷ put_by r x w ws (put R x ws)) ≡ put_once R x (lasts R (y ∷ w ∷ ws))
  by_second x y w ws Less e f h = between x y w ws e (o.trans y x w (above x y e) f) h
  by_second x y w ws Equal e f h = between x y w ws e (sym (alike y x w f) ∙ above x y e) h
  by_second x y w ws Greater e f h =
      ap (λ l. cond (is_eq (R y w)) l (y ∷ l)) h ∙ behind (is_eq (R y w)) x y (lasts R (w ∷ ws)) e

  -- x behind the first
  later : (x y : X) (ys : List X) → R x y ≡ Greater → lasts R (put R x ys) ≡ put_once R x (lasts R ys)
      → lasts R (y ∷ put R x ys) ≡ put_once R x (lasts R (y ∷ ys))
  later x y [] e h = ap (λ r. cond (is_eq r) (x ∷ []) (y ∷ x ∷ [])) (above x y e) ∙ behind false x y [] e
  later x y (w ∷ ws) e h = by_second x y w ws (R x w) e refl h

  by_first : (x y : X) (ys : List X) (r : Ordering) → R x y ≡ r → lasts R (put R x ys) ≡ put_once R x (lasts R ys)
      → lasts R (put_by r x y ys (put R x ys)) ≡ put_once R x (lasts R (y ∷ ys))
  by_first x y ys Less e h =
      let f = first_ties y ys in
      let left = lasts R (y ∷ ys) in
      ap (λ r. cond (is_eq r) left (x ∷ left)) e ∙ ap (λ l. x ∷ l) f.1.1.0
      ∙ sym (ap (put_once R x) f.1.1.0 ∙ ap (λ r. put_once_by r x f.0 f.1.0 (put_once R x f.1.0)) (sym (alike x y f.0 f.1.1.1) ∙ e))
  by_first x y ys Equal e h =
      let f = first_ties y ys in
      let left = lasts R (y ∷ ys) in
      ap (λ r. cond (is_eq r) left (x ∷ left)) e ∙ f.1.1.0
      ∙ sym (ap (put_once R x) f.1.1.0 ∙ ap (λ r. put_once_by r x f.0 f.1.0 (put_once R x f.1.0)) (sym (alike x y f.0 f.1.1.1) ∙ e))
  by_first x y ys Greater e h = later x y ys e h

  lasts-put : (x : X) (ys : List X) → lasts R (put R x ys) ≡ put_once R x (lasts R ys)
  lasts-put x [] = refl
  lasts-put x (y ∷ ys) = by_first x y ys (R x y) refl (lasts-put x ys)

  -- of the sorted elements, the last of those that tie: the elements in order, each once
  pub lasts-sorted : (xs : List X) → lasts R (sorted R xs) ≡ in_order R xs
  unfolding sorted in_order
  lasts-sorted [] = refl
  lasts-sorted (x ∷ xs) = lasts-put x (sorted R xs) ∙ ap (put_once R x) (lasts-sorted xs)
