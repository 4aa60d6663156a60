-- How often a fact is among those that stand for the facts of a target: at most once, and once where owners are no deeper than
-- tuples are read and are of the fact's target.
use Rattle.std.proofs.Common.{◌≡◌, ◌∙◌, ap, sym, subst, refl, ℕ, zero, suc, ◌+◌, ◌≤◌, Bool, true, false, cond, List, [], ◌∷◌, Option, Some, None, length, arith, ⊎_elim, ◌<◌}
use Rattle.std.proofs.Math.Nat.{eq-or-lt_of_le}
use Rattle.std.specs.Prelude.{◌&&◌, bytes_eq, is_some, not}
use Rattle.std.specs.List.{Contains, filter}
use Rattle.std.specs.Option.{option_map_or}
use Rattle.std.proofs.lemmas.Bool.{and_from, both_ways, eq-eqb}
use Rattle.ix_base.specs.declared.limits.TheConstants.{DEEPEST_TUPLE}
use Rattle.ix_base.specs.declared.kind.Kind.{Kind}
use Rattle.ix_base.specs.declared.kind.Kind.TheVariants as kind
use Rattle.ix_base.specs.Asks.{Asks, asks, only}
use Rattle.ix_base.specs.Elements.{placed_at}
use Rattle.ix_base.specs.Ids.{holds_tuple_id}
use Rattle.ix_base.specs.Kinds as kinds
use Rattle.ix_base.specs.Kinds.{kind_of, same_kind}
use Rattle.ix_base.specs.LinkRules.{is_too_deep, target_of}
use Rattle.ix_base.specs.LocatedElements.{Located, is_fact, is_text, is_tuple, on_page}
use Rattle.ix_base.specs.Membership.{deepest, nearest_tuple, owner, owner_by, owners, tuple_ref_of}
use Rattle.ix_base.specs.Trees.{Tree}
use Rattle.ix_base.proofs.OnceLemmas.{Contains-first, Contains-from_filter}
use Rattle.target_contents.specs.Contents.{is_outer}
use Rattle.targets.proofs.ForestLaws.{above, by_owner, heard}
use Rattle.targets.proofs.TotalLaws.{when, when-has, when-most}

-- Owners are tuples, and tuples are facts.

nearest-tuple : (n : ℕ) (around : List Tree) (o : Located) → nearest_tuple n around ≡ Some o → is_tuple o ≡ true
nearest-tuple n [] o e = absurd (cc)
nearest-tuple n (t ∷ around) o e = by (is_tuple here) refl e (nearest-tuple n around o)
  where
    here : Located
    here = on_page n (placed_at t around)

    by : (b : Bool) → is_tuple (on_page n (placed_at t around)) ≡ b
        → cond b (Some (on_page n (placed_at t around))) (nearest_tuple n around) ≡ Some o → (nearest_tuple n around ≡ Some o → is_tuple o ≡ true)
        → is_tuple o ≡ true
    by true k h later = let same : on_page n (placed_at t around) ≡ o = cc in subst (λ x. is_tuple x ≡ true) same k
    by false k h later = later h

pub only-one : {X : Type 0} (xs : List X) (x : X) → only xs ≡ Some x → xs ≡ x ∷ []
only-one [] x h = absurd (cc)
only-one (y ∷ []) x h = let same : y ≡ x = cc in ap (λ z. z ∷ []) same
only-one (y ∷ z ∷ zs) x h = absurd (cc)

tuple-text : (id : List ℕ) (b : Bool) (o : Option (List ℕ)) → is_text id (cond b o None) ≡ true → b ≡ true
tuple-text id true o h = refl
tuple-text id false o h = absurd (cc)

tuple-by : (es : List Located) (e o : Located) (ref : Option (List ℕ)) → owner_by (asks es) e ref ≡ Some o → is_tuple o ≡ true
tuple-by es e o None h = nearest-tuple e.page e.placed.above o h
tuple-by es e o (Some id) h =
    let xs = filter (holds_tuple_id id) es in
    let there : Contains xs o = subst (λ l. Contains l o) (sym (only-one xs o h)) (Contains-first o []) in
    tuple-text id (is_tuple o) _ (Contains-from_filter (holds_tuple_id id) es o there).1

pub owner_tuple : (es : List Located) (e o : Located) → owner (asks es) e ≡ Some o → is_tuple o ≡ true
owner_tuple es e o h = tuple-by es e o (tuple_ref_of e) h

tuple-kind : (k : Kind) → same_kind k kind.Tuple ≡ true → kinds.is_fact k ≡ true
tuple-kind kind.Tuple h = refl
tuple-kind k h = absurd (cc)

pub tuple_fact : (e : Located) → is_tuple e ≡ true → is_fact e ≡ true
tuple_fact e h = tuple-kind (kind_of e.placed) h

-- At most once.

most-of : (F : Located → ℕ) (v : ℕ) (b c : Bool) (o : Option Located) → ((x : Located) → F x ≤ v)
    → when (b && c && not (is_some o)) v + when b (by_owner F o) ≤ when b v
most-of F v false c o h = omega arith
most-of F v true c None h = let m : when (c && true) v ≤ v = when-most (c && true) v in omega arith
most-of F v true true (Some x) h =
    let m : when (is_tuple x) (F x) ≤ F x = when-most (is_tuple x) (F x) in let k : F x ≤ v = h x in omega arith
most-of F v true false (Some x) h =
    let m : when (is_tuple x) (F x) ≤ F x = when-most (is_tuple x) (F x) in let k : F x ≤ v = h x in omega arith

most-first : (b c d : Bool) (v : ℕ) → when (b && c && d) v ≤ when b v
most-first true c d v = when-most (c && d) v
most-first false c d v = omega arith

pub heard-most : (a : Asks Located) (target : List ℕ) (n v : ℕ) (f : Located) → heard a n (is_outer a target) v f ≤ when (is_fact f) v
heard-most a target zero v f = most-first (is_fact f) (bytes_eq target (target_of f)) (not (is_some (owner a f))) v
heard-most a target (suc n) v f =
    most-of (heard a n (is_outer a target) v) v (is_fact f) (bytes_eq target (target_of f)) (owner a f)
    (λ x. let k : heard a n (is_outer a target) v x ≤ when (is_fact x) v = heard-most a target n v x in
    let m : when (is_fact x) v ≤ v = when-most (is_fact x) v in
    omega arith)

-- Once.

owners-most : (a : Asks Located) (n : ℕ) (e : Located) → length (owners a n e) ≤ n
owners-most a zero e = omega arith
owners-most a (suc n) e = by (owner a e) (owners-most a n)
  where
    by : (o : Option Located) → ((x : Located) → length (owners a n x) ≤ n) → length (option_map_or (λ x. x ∷ owners a n x) o []) ≤ suc n
    by None h = omega arith
    by (Some x) h = let k : length (owners a n x) ≤ n = h x in omega arith

owners-few : (a : Asks Located) (x : Located) → is_tuple x ≡ true → is_too_deep a x ≡ false → length (owners a DEEPEST_TUPLE x) ≤ 99
owners-few a x tuple h =
    let many = length (owners a DEEPEST_TUPLE x) in
    ⊎_elim
    (λ (e : many ≡ DEEPEST_TUPLE). absurd (both_ways _ h (and_from (is_tuple x) _ tuple (eq-eqb many DEEPEST_TUPLE e))))
    (λ (less : many < DEEPEST_TUPLE). let k : length (owners a DEEPEST_TUPLE x) < DEEPEST_TUPLE = less in omega arith) (eq-or-lt_of_le (owners-most a DEEPEST_TUPLE x))

first-two : (b c d : Bool) → (b && c && d) ≡ true → (b ≡ true) × (c ≡ true)
first-two true true d h = (refl, refl)
first-two true false d h = absurd (cc)
first-two false c d h = absurd (cc)

module _ (all : List Located) (target : List ℕ)
    (owned : (e o : Located) → Contains all e → owner (asks all) e ≡ Some o → Contains all o)
    (keeps : (e o : Located) → Contains all e → is_fact e ≡ true → owner (asks all) e ≡ Some o → target_of e ≡ target_of o) where
  abbrev outer : Located → Bool
  outer = is_outer (asks all) target

  outer-is : (b c : Bool) (o : Option Located) → b ≡ true → c ≡ true → o ≡ None → (b && c && not (is_some o)) ≡ true
  outer-is true true None p q r = refl
  outer-is true true (Some x) p q r = absurd (cc)
  outer-is true false o p q r = absurd (cc)
  outer-is false c o p q r = absurd (cc)

  same-target : (e o : Located) → Contains all e → is_fact e ≡ true → owner (asks all) e ≡ Some o → bytes_eq target (target_of e) ≡ true
      → bytes_eq target (target_of o) ≡ true
  same-target e o at fact h t = subst (λ x. bytes_eq target x ≡ true) (keeps e o at fact h) t

  -- an outer fact, or one whose owner is heard
  heard-step : (n v : ℕ) (f : Located) → is_fact f ≡ true → bytes_eq target (target_of f) ≡ true
      → ((x : Located) → owner (asks all) f ≡ Some x → v ≤ heard (asks all) n outer v x)
      → v ≤ heard (asks all) (suc n) outer v f
  heard-step n v f fact t later = by (owner (asks all) f) refl later
    where
      by : (o : Option Located) → owner (asks all) f ≡ o → ((x : Located) → o ≡ Some x → v ≤ heard (asks all) n (is_outer (asks all) target) v x)
          → v ≤ when (is_outer (asks all) target f) v + above (asks all) (heard (asks all) n (is_outer (asks all) target) v) f
      by None e h =
          let here : when (is_outer (asks all) target f) v ≡ v =
          ap (λ b. when b v) (outer-is (is_fact f) (bytes_eq target (target_of f)) (owner (asks all) f) fact t e) in
          omega arith
      by (Some x) e h =
          let F = heard (asks all) n (is_outer (asks all) target) v in
          let up : above (asks all) F f ≡ F x =
          ap (λ b. when b (by_owner F (owner (asks all) f))) fact ∙ ap (by_owner F) e ∙ ap (λ b. when b (F x)) (owner_tuple all f x e) in
          let k : v ≤ F x = h x refl in
          omega arith

  heard-least : (n v : ℕ) (f : Located) → Contains all f → is_fact f ≡ true → bytes_eq target (target_of f) ≡ true
      → length (owners (asks all) (suc n) f) ≤ n → v ≤ heard (asks all) n outer v f
  heard-least zero v f at fact t short = by (owner (asks all) f) refl short
    where
      by : (o : Option Located) → owner (asks all) f ≡ o → length (option_map_or (λ x. x ∷ owners (asks all) 0 x) o []) ≤ 0
          → v ≤ when (is_outer (asks all) target f) v
      by None e h =
          let here : when (is_outer (asks all) target f) v ≡ v =
          ap (λ b. when b v) (outer-is (is_fact f) (bytes_eq target (target_of f)) (owner (asks all) f) fact t e) in
          omega arith
      by (Some x) e h = absurd (omega arith)
  heard-least (suc n) v f at fact t short =
      heard-step n v f fact t (λ x e.
      let longer : length (owners (asks all) (suc (suc n)) f) ≡ suc (length (owners (asks all) (suc n) x)) =
      ap (λ o. length (option_map_or (λ y. y ∷ owners (asks all) (suc n) y) o [])) e in
      heard-least n v x (owned f x at e) (tuple_fact x (owner_tuple all f x e)) (same-target f x at fact e t) (omega arith))

  outer-parts : (f : Located) → outer f ≡ true → (is_fact f ≡ true) × (bytes_eq target (target_of f) ≡ true)
  outer-parts f h = first-two (is_fact f) (bytes_eq target (target_of f)) _ h

  outer-of : (f : Located) (v : ℕ) → 1 ≤ when (outer f) v → (is_fact f ≡ true) × (bytes_eq target (target_of f) ≡ true)
  outer-of f v h = outer-parts f (when-has (outer f) v h).0

  above-of : (F : Located → ℕ) (f : Located) → Contains all f → is_fact f ≡ true → (o : Option Located) → owner (asks all) f ≡ o → 1 ≤ by_owner F o
      → ((x : Located) → Contains all x → 1 ≤ F x → (is_fact x ≡ true) × (bytes_eq target (target_of x) ≡ true))
      → bytes_eq target (target_of f) ≡ true
  above-of F f at fact None e h later = let none : 1 ≤ 0 = h in absurd (omega arith)
  above-of F f at fact (Some x) e h later =
      let k = when-has (is_tuple x) (F x) h in
      subst (λ t. bytes_eq target t ≡ true) (sym (keeps f x at fact e)) (later x (owned f x at e) k.1).1

  -- a fact of the target is heard, where no tuple has too many owners
  pub heard-all : ((e : Located) → Contains all e → is_too_deep (asks all) e ≡ false) → (v : ℕ) (f : Located) → Contains all f → is_fact f ≡ true
      → bytes_eq target (target_of f) ≡ true → v ≤ heard (asks all) deepest outer v f
  heard-all sound v f at fact t =
      heard-step 99 v f fact t (λ x e.
      let tuple = owner_tuple all f x e in
      heard-least 99 v x (owned f x at e) (tuple_fact x tuple) (same-target f x at fact e t)
      (owners-few (asks all) x tuple (sound x (owned f x at e))))

  -- what is heard is a fact of the target
  pub heard-of : (n v : ℕ) (f : Located) → Contains all f → 1 ≤ heard (asks all) n outer v f → (is_fact f ≡ true) × (bytes_eq target (target_of f) ≡ true)
  heard-of zero v f at h = outer-of f v h
  heard-of (suc n) v f at h = by (is_outer (asks all) target f) refl h (heard-of n v)
    where
      by : (b : Bool) → is_outer (asks all) target f ≡ b
          → 1 ≤ when b v + above (asks all) (heard (asks all) n (is_outer (asks all) target) v) f
          → ((x : Located) → Contains all x → 1 ≤ heard (asks all) n (is_outer (asks all) target) v x → (is_fact x ≡ true) × (bytes_eq target (target_of x) ≡ true))
          → (is_fact f ≡ true) × (bytes_eq target (target_of f) ≡ true)
      by true e k later = outer-parts f e
      by false e k later =
          let some : 1 ≤ above (asks all) (heard (asks all) n (is_outer (asks all) target) v) f = omega arith in
          let fact = when-has (is_fact f) _ some in
          (fact.0, above-of (heard (asks all) n (is_outer (asks all) target) v) f at fact.0 (owner (asks all) f) refl fact.1 later)
