-- Sums of weights. Two lists whose weights sum alike, whatever the weights, are one list up to order.
use Rattle.std.proofs.Common.{◌≡◌, ◌∙◌, ap, sym, refl, ℕ, zero, suc, ◌+◌, ◌≤◌, Bool, true, false, cond, List, [], ◌∷◌, ◌++◌, map, arith, ⊎_elim, Option, Some, None}
use Rattle.std.specs.List.{Contains, cons_option, filter, filter_map, flat_map}
use Rattle.std.specs.Option.{option_map_or}
use Rattle.std.specs.declared.cmp.Ordering.{Ordering}
use Rattle.std.specs.declared.cmp.Ordering.TheVariants.{Less, Equal, Greater}
use Rattle.std.proofs.lemmas.List.Concat.{flat_map-cons}
use Rattle.ix_base.specs.SortedLists.{put, put_by, sorted}
use Rattle.ix_base.proofs.OnceLemmas.{Contains-cases, Contains-first, Contains-later, Contains-nil}

-- a weight, where the condition holds
abbrev pub when : Bool → ℕ → ℕ
when true n = n
when false n = 0

-- the sum of the weights
abbrev pub total : {X : Type 0} → (X → ℕ) → List X → ℕ
total w [] = 0
total w (x ∷ xs) = w x + total w xs

pub when-most : (b : Bool) (n : ℕ) → when b n ≤ n
when-most true n = omega arith
when-most false n = omega arith

pub when-plus : (b : Bool) (m n : ℕ) → when b (m + n) ≡ when b m + when b n
when-plus true m n = refl
when-plus false m n = omega arith

pub when-zero : (b : Bool) → when b 0 ≡ 0
when-zero true = refl
when-zero false = refl

pub when-up : (b : Bool) (m n : ℕ) → m ≤ n → when b m ≤ when b n
when-up true m n h = h
when-up false m n h = omega arith

pub when-has : (b : Bool) (n : ℕ) → 1 ≤ when b n → (b ≡ true) × (1 ≤ n)
when-has true n h = (refl, h)
when-has false n h = let f : 1 ≤ 0 = h in absurd (omega arith)

module _ {X : Type 0} where
  pub total-append : (w : X → ℕ) (xs ys : List X) → total w (xs ++ ys) ≡ total w xs + total w ys
  total-append w [] ys = omega arith
  total-append w (x ∷ xs) ys = let e : total w (xs ++ ys) ≡ total w xs + total w ys = total-append w xs ys in omega arith

  pub total-plus : (v w : X → ℕ) (xs : List X) → total (λ x. v x + w x) xs ≡ total v xs + total w xs
  total-plus v w [] = omega arith
  total-plus v w (x ∷ xs) = let e : total (λ y. v y + w y) xs ≡ total v xs + total w xs = total-plus v w xs in omega arith

  pub total-zero : (xs : List X) → total (λ x. 0) xs ≡ 0
  total-zero [] = refl
  total-zero (x ∷ xs) = let e : total (λ (y : X). 0) xs ≡ 0 = total-zero xs in omega arith

  pub total-less : (v w : X → ℕ) (xs : List X) → ((x : X) → Contains xs x → v x ≤ w x) → total v xs ≤ total w xs
  total-less v w [] h = omega arith
  total-less v w (x ∷ xs) h =
      let here : v x ≤ w x = h x (Contains-first x xs) in
      let rest : total v xs ≤ total w xs = total-less v w xs (λ y k. h y (Contains-later x xs y k)) in
      omega arith

  pub total-same : (v w : X → ℕ) (xs : List X) → ((x : X) → Contains xs x → v x ≡ w x) → total v xs ≡ total w xs
  total-same v w [] h = refl
  total-same v w (x ∷ xs) h =
      let here : v x ≡ w x = h x (Contains-first x xs) in
      let rest : total v xs ≡ total w xs = total-same v w xs (λ y k. h y (Contains-later x xs y k)) in
      omega arith

  pub total-when : (b : Bool) (w : X → ℕ) (xs : List X) → when b (total w xs) ≡ total (λ x. when b (w x)) xs
  total-when true w xs = refl
  total-when false w xs = sym (total-zero xs)

  kept : (w : X → ℕ) (b : Bool) (x : X) (ys : List X) → total w (cond b (x ∷ ys) ys) ≡ when b (w x) + total w ys
  kept w true x ys = refl
  kept w false x ys = omega arith

  pub total-filter : (w : X → ℕ) (p : X → Bool) (xs : List X) → total w (filter p xs) ≡ total (λ x. when (p x) (w x)) xs
  total-filter w p [] = refl
  total-filter w p (x ∷ xs) =
      let e : total w (filter p xs) ≡ total (λ y. when (p y) (w y)) xs = total-filter w p xs in
      let k : total w (cond (p x) (x ∷ filter p xs) (filter p xs)) ≡ when (p x) (w x) + total w (filter p xs) = kept w (p x) x (filter p xs) in
      k ∙ ap (λ n. when (p x) (w x) + n) e

  -- what has weight is there
  pub total-some : (w : X → ℕ) (xs : List X) (x : X) → Contains xs x → w x ≤ total w xs
  total-some w [] x h = absurd (Contains-nil x h)
  total-some w (y ∷ xs) x h =
      ⊎_elim
      (λ (e : y ≡ x). let same : w y ≡ w x = ap w e in omega arith)
      (λ later. let rest : w x ≤ total w xs = total-some w xs x later in omega arith) (Contains-cases y xs x h)

  found-by : (w : X → ℕ) (n : ℕ) (x : X) (xs : List X) → w x ≡ n → 1 ≤ w x + total w xs → (1 ≤ total w xs → (y : X) × Contains xs y × (1 ≤ w y))
      → (y : X) × Contains (x ∷ xs) y × (1 ≤ w y)
  found-by w zero x xs e h later =
      let rest : 1 ≤ total w xs = omega arith in
      let at = later rest in
      (at.0, Contains-later x xs at.0 at.1, at.2)
  found-by w (suc n) x xs e h later = (x, Contains-first x xs, omega arith)

  pub total-has : (w : X → ℕ) (xs : List X) → 1 ≤ total w xs → (x : X) × Contains xs x × (1 ≤ w x)
  total-has w [] h = let f : 1 ≤ 0 = h in absurd (omega arith)
  total-has w (x ∷ xs) h = found-by w (w x) x xs refl h (total-has w xs)

  put-total-by : (w : X → ℕ) (o : Ordering) (x y : X) (ys behind : List X) → total w behind ≡ w x + total w ys
      → total w (put_by o x y ys behind) ≡ w x + (w y + total w ys)
  put-total-by w Less x y ys behind h = refl
  put-total-by w Equal x y ys behind h = refl
  put-total-by w Greater x y ys behind h = omega arith

  put-total : (w : X → ℕ) (R : X → X → Ordering) (x : X) (ys : List X) → total w (put R x ys) ≡ w x + total w ys
  put-total w R x [] = refl
  put-total w R x (y ∷ ys) = put-total-by w (R x y) x y ys (put R x ys) (put-total w R x ys)

  pub total-sorted : (w : X → ℕ) (R : X → X → Ordering) (xs : List X) → total w (sorted R xs) ≡ total w xs
  unfolding sorted
  total-sorted w R [] = refl
  total-sorted w R (x ∷ xs) = put-total w R x (sorted R xs) ∙ ap (λ n. w x + n) (total-sorted w R xs)

pub total-map : {X Y : Type 0} (w : Y → ℕ) (f : X → Y) (xs : List X) → total w (map f xs) ≡ total (λ x. w (f x)) xs
total-map w f [] = refl
total-map w f (x ∷ xs) = ap (λ n. w (f x) + n) (total-map w f xs)

pub total-flat : {X Y : Type 0} (w : Y → ℕ) (f : X → List Y) (xs : List X) → total w (flat_map f xs) ≡ total (λ x. total w (f x)) xs
total-flat w f [] = refl
total-flat w f (x ∷ xs) =
    ap (total w) (flat_map-cons f x xs) ∙ total-append w (f x) (flat_map f xs) ∙ ap (λ n. total w (f x) + n) (total-flat w f xs)

-- the order of two sums
pub total-turned : {X Y : Type 0} (f : X → Y → ℕ) (xs : List X) (ys : List Y)
    → total (λ x. total (f x) ys) xs ≡ total (λ y. total (λ x. f x y) xs) ys
total-turned {X} {Y} f [] ys = sym (total-zero ys)
total-turned {X} {Y} f (x ∷ xs) ys =
    ap (λ n. total (f x) ys + n) (total-turned f xs ys) ∙ sym (total-plus (f x) (λ (y : Y). total (λ (z : X). f z y) xs) ys)

given-total : {Y : Type 0} (w : Y → ℕ) (o : Option Y) (ys : List Y) → total w (cons_option o ys) ≡ option_map_or w o 0 + total w ys
given-total w None ys = omega arith
given-total w (Some y) ys = refl

pub total-given : {X Y : Type 0} (w : Y → ℕ) (f : X → Option Y) (xs : List X) → total w (filter_map f xs) ≡ total (λ x. option_map_or w (f x) 0) xs
total-given w f [] = refl
total-given w f (x ∷ xs) = given-total w (f x) (filter_map f xs) ∙ ap (λ n. option_map_or w (f x) 0 + n) (total-given w f xs)
