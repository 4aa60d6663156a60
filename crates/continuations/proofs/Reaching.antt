-- Chains, and walks over numbers.
use Rattle.std.proofs.Common.{◌≡◌, ◌∙◌, ◌<◌, ℕ, zero, suc, Bool, true, false, List, [], ◌∷◌, refl, ap, sym, arith, Option, Some, None, option_map, inl, inr}
use Rattle.std.proofs.lemmas.Bool.{true≢false, or_left, or_right}
use Rattle.std.proofs.lemmas.List.Folds.{list_any-append}
use Rattle.std.specs.Prelude.{◌||◌, option_and_then}
use Rattle.std.specs.List.{flat_map, list_any, slice_get}
use Rattle.std.specs.Option.{option_map_or}
use Rattle.ix_base.specs.Asks.{Asks}
use Rattle.ix_base.specs.Chain.{next, chain_of}
use Rattle.ix_base.specs.LocatedElements.{Located}
use Rattle.continuations.specs.Walks.{next_at, walk, Reaches, AreNexts}
use Rattle.continuations.proofs.Numbering.{IsIn}
use Rattle.continuations.proofs.Walking.{some-inj, first-step, reaches-self}

some-none : {X Y : Type 0} (x : X) → None ≡ Some x → Y
some-none x e = absurd cc

-- the element at which one goes on, by its number
next-got : (a : Asks Located) (xs : List Located) (e : Located) (o : Option ℕ) (n : ℕ) → option_map (slice_get xs) o ≡ option_map Some (next a e) → o ≡ Some n
    → (x : Located) × (next a e ≡ Some x) × (slice_get xs n ≡ Some x)
next-got a xs e o n h is = by (next a e) refl (sym (ap (option_map (slice_get xs)) is) ∙ h) where
  by : (p : Option Located) → next a e ≡ p → Some (slice_get xs n) ≡ option_map Some p → (x : Located) × (next a e ≡ Some x) × (slice_get xs n ≡ Some x)
  by None e h = absurd cc
  by (Some x) e h = (x, e, some-inj (slice_get xs n) (Some x) h)

-- its number
pub next-number : (a : Asks Located) (xs : List Located) (e x : Located) (o : Option ℕ) → option_map (slice_get xs) o ≡ option_map Some (next a e) → next a e ≡ Some x
    → (n : ℕ) × (o ≡ Some n) × (slice_get xs n ≡ Some x)
next-number a xs e x None h is = absurd (some-none (Some x) (h ∙ ap (option_map Some) is))
next-number a xs e x (Some n) h is = (n, refl, some-inj (slice_get xs n) (Some x) (h ∙ ap (option_map Some) is))

-- what a walk reaches in fewer steps than the chain is long is in the chain
pub chain-has : (a : Asks Located) (xs : List Located) (count : ℕ) (ns : List (Option ℕ)) → AreNexts a xs count ns
    → (q : Located → Bool) (t m k j : ℕ) (e f : Located) → walk ns t k ≡ Some j → t < m → slice_get xs k ≡ Some e → slice_get xs j ≡ Some f → q f ≡ true
    → list_any q (chain_of a m e) ≡ true
chain-has a xs count ns n q t zero k j e f w l s r h = absurd (omega (arith, l))
chain-has a xs count ns n q zero (suc m) k j e f w l s r h =
    let same : e ≡ f = some-inj e f (sym s ∙ ap (slice_get xs) (some-inj k j w) ∙ r) in
    or_left (q e) (list_any q (option_map_or (chain_of a m) (next a e) [])) (ap q same ∙ h)
chain-has a xs count ns n q (suc t) (suc m) k j e f w l s r h =
    let step : (i : ℕ) × (next_at ns k ≡ Some i) × (walk ns t i ≡ Some j) = first-step ns t k j w in
    let got : (x : Located) × (next a e ≡ Some x) × (slice_get xs step.0 ≡ Some x) = next-got a xs e (next_at ns k) step.0 (n.names k e s) step.1 in
    or_right (q e) (list_any q (option_map_or (chain_of a m) (next a e) []))
    (ap (λ o. list_any q (option_map_or (chain_of a m) o [])) got.1
    ∙ chain-has a xs count ns n q t m step.0 j got.0 f step.2 (omega (arith, l)) got.2 r h)

-- an element of a chain is reached by a walk
pub chain-found : (a : Asks Located) (xs : List Located) (count : ℕ) (ns : List (Option ℕ)) → AreNexts a xs count ns
    → (q : Located → Bool) (m k : ℕ) (e : Located) → slice_get xs k ≡ Some e → list_any q (chain_of a m e) ≡ true
    → (j : ℕ) × (f : Located) × Reaches ns k j × (slice_get xs j ≡ Some f) × (q f ≡ true)
chain-found a xs count ns n q zero k e s h = absurd (true≢false (sym h))
chain-found a xs count ns n q (suc m) k e s h = by (q e) refl h (chain-found a xs count ns n q m) where
  on : (o : Option Located) → next a e ≡ o → list_any q (option_map_or (chain_of a m) o []) ≡ true
      → ((i : ℕ) (x : Located) → slice_get xs i ≡ Some x → list_any q (chain_of a m x) ≡ true → (j : ℕ) × (f : Located) × Reaches ns i j × (slice_get xs j ≡ Some f) × (q f ≡ true))
      → (j : ℕ) × (f : Located) × Reaches ns k j × (slice_get xs j ≡ Some f) × (q f ≡ true)
  on None e' h later = absurd (true≢false (sym h))
  on (Some x) e' h later =
      let at : (i : ℕ) × (next_at ns k ≡ Some i) × (slice_get xs i ≡ Some x) = next-number a xs e x (next_at ns k) (n.names k e s) e' in
      let r : (j : ℕ) × (f : Located) × Reaches ns at.0 j × (slice_get xs j ≡ Some f) × (q f ≡ true) = later at.0 x at.2 h in
      (r.0, r.1, (suc (r.2).0, ap (λ o. option_and_then (walk ns (r.2).0) o) at.1 ∙ (r.2).1), r.3, r.4)

  by : (b : Bool) → q e ≡ b → (b || list_any q (option_map_or (chain_of a m) (next a e) [])) ≡ true
      → ((i : ℕ) (x : Located) → slice_get xs i ≡ Some x → list_any q (chain_of a m x) ≡ true → (j : ℕ) × (f : Located) × Reaches ns i j × (slice_get xs j ≡ Some f) × (q f ≡ true))
      → (j : ℕ) × (f : Located) × Reaches ns k j × (slice_get xs j ≡ Some f) × (q f ≡ true)
  by true t h later = (k, e, reaches-self ns k, s, t)
  by false t h later = on (next a e) refl h later

pub any-flat : {X Y : Type 0} (q : Y → Bool) (f : X → List Y) (xs : List X) → list_any q (flat_map f xs) ≡ true → (x : X) × IsIn x xs × (list_any q (f x) ≡ true)
unfolding IsIn
any-flat {X = X} q f [] h = absurd (true≢false (sym h))
any-flat {X = X} q f (x ∷ xs) h = by (list_any q (f x)) refl (sym (list_any-append q (f x) (flat_map f xs)) ∙ h) (any-flat q f xs) where
  by : (b : Bool) → list_any q (f x) ≡ b → (b || list_any q (flat_map f xs)) ≡ true → (list_any q (flat_map f xs) ≡ true → (y : X) × IsIn y xs × (list_any q (f y) ≡ true))
      → (y : X) × IsIn y (x ∷ xs) × (list_any q (f y) ≡ true)
  by true t h later = (x, inl refl, t)
  by false t h later = let r : (y : X) × IsIn y xs × (list_any q (f y) ≡ true) = later h in (r.0, inr r.1, r.2)

pub flat-any : {X Y : Type 0} (q : Y → Bool) (f : X → List Y) (xs : List X) (x : X) → IsIn x xs → list_any q (f x) ≡ true → list_any q (flat_map f xs) ≡ true
unfolding IsIn
flat-any q f [] x i h = absurd i
flat-any q f (y ∷ ys) x (inl e) h = list_any-append q (f y) (flat_map f ys) ∙ or_left (list_any q (f y)) (list_any q (flat_map f ys)) (ap (λ z. list_any q (f z)) (sym e) ∙ h)
flat-any q f (y ∷ ys) x (inr i) h = list_any-append q (f y) (flat_map f ys) ∙ or_right (list_any q (f y)) (list_any q (flat_map f ys)) (flat-any q f ys x i h)

abbrev pub Both : Bool → Bool → Type 0
Both x y = (x ≡ true → y ≡ true) × (y ≡ true → x ≡ true)

pub same-bool : (x y : Bool) → Both x y → x ≡ y
same-bool true y h = sym (h.0 refl)
same-bool false true h = h.1 refl
same-bool false false h = refl
