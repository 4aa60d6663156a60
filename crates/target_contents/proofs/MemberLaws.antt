-- What is in a list that was made from another one.
use Rattle.std.proofs.Common.{◌≡◌, ◌∙◌, ap, sym, subst, refl, ℕ, Bool, true, false, List, [], ◌∷◌, map, Option, Some, None, ⊎_elim, ◌⊎◌, inl, inr}
use Rattle.std.specs.Prelude.{◌||◌, bytes_eq}
use Rattle.std.specs.List.{Contains, cons_option, filter_map, flat_map, list_all, list_any}
use Rattle.std.specs.declared.cmp.Ordering.{Ordering}
use Rattle.std.specs.declared.cmp.Ordering.TheVariants.{Less, Equal, Greater}
use Rattle.std.proofs.lemmas.Bool.{and_from}
use Rattle.std.proofs.lemmas.List.Concat.{flat_map-cons}
use Rattle.std.proofs.lemmas.List.Elements.{Contains-append_cases, Contains-append_left, Contains-append_right}
use Rattle.std.proofs.lemmas.Slice.Eq.{bytes_eq-Decides}
use Rattle.ix_base.specs.SortedLists.{put, put_by, sorted}
use Rattle.ix_base.proofs.OnceLemmas.{Contains-cases, Contains-first, Contains-later, Contains-nil, Contains-same}
use Rattle.instance_lines.specs.Lists.{has, is_within}

pub in-map : {X Y : Type 0} (f : X → Y) (xs : List X) (x : X) → Contains xs x → Contains (map f xs) (f x)
in-map f [] x h = absurd (Contains-nil x h)
in-map f (y ∷ xs) x h =
    ⊎_elim (λ (e : y ≡ x). Contains-same (f y) (map f xs) (f x) (ap f e)) (λ later. Contains-later (f y) (map f xs) (f x) (in-map f xs x later))
    (Contains-cases y xs x h)

pub in-map-as : {X Y : Type 0} (f : X → Y) (xs : List X) (x : X) (y : Y) → Contains xs x → f x ≡ y → Contains (map f xs) y
in-map-as f xs x y h e = subst (Contains (map f xs)) e (in-map f xs x h)

pub from-map : {X Y : Type 0} (f : X → Y) (xs : List X) (y : Y) → Contains (map f xs) y → (x : X) × Contains xs x × (f x ≡ y)
from-map f [] y h = absurd (Contains-nil y h)
from-map f (x ∷ xs) y h =
    ⊎_elim (λ (e : f x ≡ y). (x, Contains-first x xs, e)) (λ later. let at = from-map f xs y later in (at.0, Contains-later x xs at.0 at.1, at.2))
    (Contains-cases (f x) (map f xs) y h)

module _ {X Y : Type 0} (f : X → Option Y) where
  given-later : (o : Option Y) (ys : List Y) (y : Y) → Contains ys y → Contains (cons_option o ys) y
  given-later None ys y h = h
  given-later (Some z) ys y h = Contains-later z ys y h

  -- what a list gives
  pub in-given : (xs : List X) (x : X) (y : Y) → Contains xs x → f x ≡ Some y → Contains (filter_map f xs) y
  in-given [] x y h e = absurd (Contains-nil x h)
  in-given (z ∷ xs) x y h e =
      ⊎_elim
      (λ (s : z ≡ x). subst (λ o. Contains (cons_option o (filter_map f xs)) y) (sym (ap f s ∙ e)) (Contains-first y (filter_map f xs)))
      (λ later. given-later (f z) (filter_map f xs) y (in-given xs x y later e)) (Contains-cases z xs x h)

  given-by : (o : Option Y) (x : X) (xs : List X) (ys : List Y) (y : Y) → f x ≡ o → (Contains ys y → (z : X) × Contains xs z × (f z ≡ Some y))
      → Contains (cons_option o ys) y → (z : X) × Contains (x ∷ xs) z × (f z ≡ Some y)
  given-by None x xs ys y e later h = let at = later h in (at.0, Contains-later x xs at.0 at.1, at.2)
  given-by (Some v) x xs ys y e later h =
      ⊎_elim (λ (s : v ≡ y). (x, Contains-first x xs, e ∙ ap Some s)) (λ k. let at = later k in (at.0, Contains-later x xs at.0 at.1, at.2))
      (Contains-cases v ys y h)

  pub from-given : (xs : List X) (y : Y) → Contains (filter_map f xs) y → (x : X) × Contains xs x × (f x ≡ Some y)
  from-given [] y h = absurd (Contains-nil y h)
  from-given (x ∷ xs) y h = given-by (f x) x xs (filter_map f xs) y refl (from-given xs y) h

module _ {X Y : Type 0} (f : X → List Y) where
  pub in-flat : (xs : List X) (x : X) (y : Y) → Contains xs x → Contains (f x) y → Contains (flat_map f xs) y
  in-flat [] x y h k = absurd (Contains-nil x h)
  in-flat (z ∷ xs) x y h k =
      subst (λ l. Contains l y) (sym (flat_map-cons f z xs))
      (⊎_elim
      (λ (s : z ≡ x). Contains-append_left (f z) (flat_map f xs) y (subst (λ w. Contains (f w) y) (sym s) k))
      (λ later. Contains-append_right (f z) (flat_map f xs) y (in-flat xs x y later k)) (Contains-cases z xs x h))

  pub from-flat : (xs : List X) (y : Y) → Contains (flat_map f xs) y → (x : X) × Contains xs x × Contains (f x) y
  from-flat [] y h = absurd (Contains-nil y h)
  from-flat (x ∷ xs) y h =
      ⊎_elim
      (λ here. (x, Contains-first x xs, here))
      (λ k. let at = from-flat xs y k in (at.0, Contains-later x xs at.0 at.1, at.2))
      (Contains-append_cases (f x) (flat_map f xs) y (subst (λ l. Contains l y) (flat_map-cons f x xs) h))

put-there : {X : Type 0} (R : X → X → Ordering) (x : X) (ys : List X) (z : X) → (x ≡ z) ⊎ Contains ys z → Contains (put R x ys) z
put-there R x [] z h = ⊎_elim (Contains-same x [] z) (λ k. absurd (Contains-nil z k)) h
put-there {X} R x (y ∷ ys) z h = by (R x y) (put-there R x ys z)
  where
    by : (o : Ordering) → ((x ≡ z) ⊎ Contains ys z → Contains (put R x ys) z) → Contains (put_by o x y ys (put R x ys)) z
    by Less f = ⊎_elim (Contains-same x (y ∷ ys) z) (Contains-later x (y ∷ ys) z) h
    by Equal f = ⊎_elim (Contains-same x (y ∷ ys) z) (Contains-later x (y ∷ ys) z) h
    by Greater f =
        ⊎_elim
        (λ e. Contains-later y (put R x ys) z (f (inl e)))
        (λ k. ⊎_elim (Contains-same y (put R x ys) z) (λ c. Contains-later y (put R x ys) z (f (inr c))) (Contains-cases y ys z k)) h

pub in-sorted : {X : Type 0} (R : X → X → Ordering) (xs : List X) (z : X) → Contains xs z → Contains (sorted R xs) z
unfolding sorted
in-sorted R [] z h = h
in-sorted R (x ∷ xs) z h =
    put-there R x (sorted R xs) z (⊎_elim (λ e. inl e) (λ k. inr (in-sorted R xs z k)) (Contains-cases x xs z h))

pub all-pass : {X : Type 0} (p : X → Bool) (xs : List X) → ((x : X) → Contains xs x → p x ≡ true) → list_all p xs ≡ true
all-pass p [] h = refl
all-pass p (x ∷ xs) h = and_from (p x) (list_all p xs) (h x (Contains-first x xs)) (all-pass p xs (λ y k. h y (Contains-later x xs y k)))

-- a test that one of a list passes
pub any-passes : {X : Type 0} (p : X → Bool) (xs : List X) (x : X) → Contains xs x → p x ≡ true → list_any p xs ≡ true
any-passes p [] x h e = absurd (Contains-nil x h)
any-passes p (y ∷ xs) x h e =
    ⊎_elim (λ (s : y ≡ x). ap (λ b. b || list_any p xs) (ap p s ∙ e)) (λ later. or-right (p y) (list_any p xs) (any-passes p xs x later e)) (Contains-cases y xs x h)
  where
    or-right : (b c : Bool) → c ≡ true → (b || c) ≡ true
    or-right true c k = refl
    or-right false c k = k

pub passes-any : {X : Type 0} (p : X → Bool) (xs : List X) → list_any p xs ≡ true → (x : X) × Contains xs x × (p x ≡ true)
passes-any p [] h = absurd (cc)
passes-any {X} p (y ∷ xs) h = by (p y) refl h (passes-any p xs)
  where
    by : (b : Bool) → p y ≡ b → (b || list_any p xs) ≡ true → (list_any p xs ≡ true → (x : X) × Contains xs x × (p x ≡ true))
        → (x : X) × Contains (y ∷ xs) x × (p x ≡ true)
    by true e k later = (y, Contains-first y xs, e)
    by false e k later = let at = later k in (at.0, Contains-later y xs at.0 at.1, at.2)

pub within-from : (ids among : List (List ℕ)) → ((id : List ℕ) → Contains ids id → Contains among id) → is_within ids among ≡ true
within-from ids among h =
    all-pass (has among) ids (λ id k. any-passes (λ x. bytes_eq x id) among id (h id k) ((bytes_eq-Decides id id).1 refl))
