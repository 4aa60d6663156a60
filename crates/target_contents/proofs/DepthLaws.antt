-- Where no tuple has too many owners above it, the facts that are read stand at most so deep in tuples.
use Rattle.std.proofs.Common.{◌≡◌, ◌∙◌, ap, sym, subst, refl, ℕ, zero, suc, ◌+◌, ◌≤◌, Bool, true, false, List, [], ◌∷◌, ◌++◌, All, Option, Some, None, length, arith, ◌⊎◌, ⊎_elim, inl, inr}
use Rattle.std.specs.Prelude.{◌==◌}
use Rattle.std.specs.List.{Contains, flat_map, filter}
use Rattle.std.specs.Option.{option_map_or}
use Rattle.std.specs.Ordering.{on}
use Rattle.std.specs.declared.cmp.Ordering.{Ordering}
use Rattle.std.specs.declared.cmp.Ordering.TheVariants.{Less, Equal, Greater}
use Rattle.std.proofs.lemmas.Bool.{and_from, and_parts, both_ways, eq-eqb}
use Rattle.std.proofs.lemmas.List.Elements.{All-contains}
use Rattle.ix_base.specs.declared.limits.TheConstants.{DEEPEST_TUPLE}
use Rattle.ix_base.specs.declared.content.Item.{Item}
use Rattle.ix_base.specs.declared.rule.Rule.TheVariants as rule
use Rattle.ix_base.specs.Asks.{Asks, asks}
use Rattle.ix_base.specs.Facts.{Facts, none, item, tuple}
use Rattle.ix_base.specs.LinkRules.{breaking, broken_at, found_at, is_too_deep}
use Rattle.ix_base.specs.LocatedElements.{Located, is_fact, is_tuple, same_place}
use Rattle.ix_base.specs.Membership.{deepest, is_owned_by, members, order_of, owner, owners}
use Rattle.ix_base.specs.Orders.{order_cmp}
use Rattle.ix_base.specs.Rows.{row}
use Rattle.ix_base.specs.SortedLists.{put, put_by, sorted}
use Rattle.ix_base.proofs.OnceLemmas.{Contains-cases, Contains-first, Contains-from_filter, Contains-later, Contains-nil, Contains-same}
use Rattle.instance_lines.specs.Writable.{depth}
use Rattle.target_contents.specs.TargetFacts.{AreFacts}

-- what stands in a sorted list stood in the list
put_by-from : {X : Type 0} (r : Ordering) (x y : X) (ys behind : List X) (z : X) → (Contains behind z → (x ≡ z) ⊎ Contains ys z) → Contains (put_by r x y ys behind) z
    → (x ≡ z) ⊎ Contains (y ∷ ys) z
put_by-from Less x y ys behind z f h = Contains-cases x (y ∷ ys) z h
put_by-from Equal x y ys behind z f h = Contains-cases x (y ∷ ys) z h
put_by-from Greater x y ys behind z f h = ⊎_elim
    (λ e. inr (Contains-same y ys z e))
    (λ k. ⊎_elim inl (λ c. inr (Contains-later y ys z c)) (f k)) (Contains-cases y behind z h)

put-from : {X : Type 0} (R : X → X → Ordering) (x : X) (ys : List X) (z : X) → Contains (put R x ys) z → (x ≡ z) ⊎ Contains ys z
put-from R x [] z h = Contains-cases x [] z h
put-from R x (y ∷ ys) z h = put_by-from (R x y) x y ys (put R x ys) z (put-from R x ys z) h

pub sorted-from : {X : Type 0} (R : X → X → Ordering) (xs : List X) (z : X) → Contains (sorted R xs) z → Contains xs z
unfolding sorted
sorted-from R [] z h = h
sorted-from R (x ∷ xs) z h = ⊎_elim
    (λ e. Contains-same x xs z e)
    (λ k. Contains-later x xs z (sorted-from R xs z k)) (put-from R x (sorted R xs) z h)

-- the members of a tuple are facts that it owns
members-from : (all : List Located) (t x : Located) → Contains (members all t) x → Contains all x × (is_owned_by (asks all) t x ≡ true)
members-from all t x h =
    Contains-from_filter (is_owned_by (asks all) t) all x (sorted-from (on order_of order_cmp) (filter (is_owned_by (asks all) t) all) x h)

-- what adds up to nothing is nothing
append-none : {X : Type 0} (xs ys : List X) → xs ++ ys ≡ [] → (xs ≡ []) × (ys ≡ [])
append-none [] ys e = (refl, e)
append-none (x ∷ xs) ys e = absurd (let f : x ∷ (xs ++ ys) ≡ [] = e in cc)

flat_map-none : {X Y : Type 0} (f : X → List Y) (xs : List X) (x : X) → flat_map f xs ≡ [] → Contains xs x → f x ≡ []
flat_map-none f [] x e h = absurd (Contains-nil x h)
flat_map-none f (y ∷ ys) x e h =
    let parts = append-none (f y) (flat_map f ys) e in
    ⊎_elim (λ p. sym (ap f p) ∙ parts.0) (λ k. flat_map-none f ys x parts.1 k) (Contains-cases y ys x h)

row-none : {X : Type 0} (b : Bool) (x : X) → row b x ≡ [] → b ≡ false
row-none true x e = absurd (cc)
row-none false x e = refl

-- no element is too deep
not-deep : (all : List Located) (e : Located) → breaking rule.L9 all ≡ [] → Contains all e → is_too_deep (asks all) e ≡ false
not-deep all e sound h =
    row-none (is_too_deep (asks all) e) (found_at e rule.L9) (flat_map-none (broken_at (asks all) rule.L9) all e sound h)

is-deep : (a : Asks Located) (k : ℕ) (e : Located) → k ≡ deepest → is_tuple e ≡ true → length (owners a k e) ≡ k → is_too_deep a e ≡ true
is-deep a k e d t l = and_from (is_tuple e) _ t (subst (λ n. (length (owners a n e) == deepest) ≡ true) d (eq-eqb (length (owners a k e)) deepest (l ∙ d)))

-- one more owner
owners-more : (a : Asks Located) (k : ℕ) (x t : Located) → owner a x ≡ Some t → length (owners a k t) ≡ k → length (owners a (suc k) x) ≡ suc k
owners-more a k x t e l = ap (λ o. length (option_map_or (λ y. y ∷ owners a k y) o [])) e ∙ ap suc l

owner-at : (t : Located) (o : Option Located) → option_map_or (same_place t) o false ≡ true → (p : Located) × (o ≡ Some p) × (same_place t p ≡ true)
owner-at t None h = absurd (cc)
owner-at t (Some p) h = (p, refl, h)

module _ (Says : Located → Item → Type 0) (all : List Located)
    (apart : (x y : Located) → Contains all x → Contains all y → same_place x y ≡ true → x ≡ y)
    (owned : (e o : Located) → Contains all e → owner (asks all) e ≡ Some o → Contains all o)
    (sound : breaking rule.L9 all ≡ []) where
  -- an element with at least so many owners above it
  abbrev IsBelow : ℕ → Located → Type 0
  IsBelow k x = Contains all x × (length (owners (asks all) k x) ≡ k)

  abbrev AreBelow : ℕ → List Located → Type 0
  AreBelow k xs = (x : Located) → Contains xs x → IsBelow k x

  member-below : (k : ℕ) (t x : Located) → IsBelow k t → Contains (members all t) x → IsBelow (suc k) x
  member-below k t x there h =
      let m = members-from all t x h in
      let found = owner-at t (owner (asks all) x) (and_parts (is_fact x) _ m.1).1 in
      let same : t ≡ found.0 = apart t found.0 there.0 (owned x found.0 m.0 found.1) found.2 in
      (m.0, owners-more (asks all) k x t (found.1 ∙ ap Some (sym same)) there.1)

  -- no tuple has as many as the rule forbids
  not-deepest : (k : ℕ) → k ≡ deepest → (t : Located) → is_tuple t ≡ true → IsBelow k t → ⊥
  not-deepest k d t is there = both_ways _ (not-deep all t sound there.0) (is-deep (asks all) k t d is there.1)

  shallow-at : (n k : ℕ) → n + k ≡ deepest → (xs : List Located) → AreBelow k xs → (facts : Facts) → AreFacts Says all n xs facts → depth facts ≤ n
  shallow-at n k d [] stand none are = omega arith
  shallow-at n k d [] stand (item i rest) are = absurd are
  shallow-at n k d [] stand (tuple name id nil within rest) are = absurd are
  shallow-at n k d (x ∷ xs) stand none are = absurd are
  shallow-at n k d (x ∷ xs) stand (item i rest) are = shallow-at n k d xs (λ y h. stand y (Contains-later x xs y h)) rest are.2
  shallow-at zero k d (x ∷ xs) stand (tuple name id nil within rest) are =
      absurd (not-deepest k (omega arith) x are.0 (stand x (Contains-first x xs)))
  shallow-at (suc m) k d (x ∷ xs) stand (tuple name id nil within rest) are =
      let here = stand x (Contains-first x xs) in
      let inner : depth within ≤ m = shallow-at m (suc k) (omega arith) (members all x) (λ y h. member-below k x y here h) within are.4 in
      let later : depth rest ≤ suc m = shallow-at (suc m) k d xs (λ y h. stand y (Contains-later x xs y h)) rest are.5 in
      omega arith

-- the facts that some of the elements are stand at most so deep in tuples
pub shallow : (Says : Located → Item → Type 0) (all : List Located)
    → ((x y : Located) → Contains all x → Contains all y → same_place x y ≡ true → x ≡ y)
    → ((e o : Located) → Contains all e → owner (asks all) e ≡ Some o → Contains all o)
    → breaking rule.L9 all ≡ []
    → (xs : List Located) → All (λ x. Contains all x) xs
    → (facts : Facts) → AreFacts Says all deepest xs facts → depth facts ≤ DEEPEST_TUPLE
shallow Says all apart owned sound xs among facts are =
    shallow-at Says all apart owned sound deepest 0 (omega arith) xs (λ x h. (All-contains (Contains all) xs x among h, refl)) facts are
