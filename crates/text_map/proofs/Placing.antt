-- What is found after a change at the place of a text.
use Rattle.std.proofs.Common.{◌≡◌, ◌∙◌, ap, refl, sym, subst, ℕ, List, Bool, true, false, cond, ltb, bytes_eq, is_some, option_map, Option, Some, None, Vec, ◌||◌}
use Rattle.std.proofs.lemmas.Slice.Eq.{bytes_eq-Decides}
use Rattle.std.specs.Global.{Global}
use Rattle.std.specs.List.{slice_get}
use Rattle.std.specs.Option.{option_map_or}
use Rattle.indexmap.specs.IndexMap.{IndexMap}
use Rattle.text_map.specs.declared.tables.TheConstants.{FEW}
use Rattle.text_map.specs.declared.key.Kept.{Kept}
use Rattle.text_map.specs.declared.tables.Place.{Place}
use Rattle.text_map.specs.declared.tables.Place.TheVariants.{First, Class, Rest}
use Rattle.text_map.specs.declared.tables.Tables.{Tables}
use Rattle.text_map.specs.Places.{any_of, items_at_rest, items_found, place_of, rest_at}
use Rattle.text_map.specs.Tables.{at, has_room, items_at, items_kept, kept_at, size}

-- What is found.

-- what stands in one place alone is what is found
pub found-front : {Y : Type 0} (x y z : Option Y) → (x ≡ None → (y ≡ None) × (z ≡ None)) → x ≡ any_of x y z
found-front None y z n = let e = n refl in λ i. any_of None (sym e.0 i) (sym e.1 i)
found-front (Some x) y z n = refl

pub found-middle : {Y : Type 0} (x y z : Option Y) → x ≡ None → (y ≡ None → z ≡ None) → y ≡ any_of x y z
found-middle {Y = Y} x y z f n = subst (λ w. y ≡ any_of w y z) (sym f) (by y n) where
  by : (v : Option Y) → (v ≡ None → z ≡ None) → v ≡ any_of None v z
  by None m = sym (m refl)
  by (Some v) m = refl

pub found-rest : {Y : Type 0} (x y z : Option Y) → x ≡ None → y ≡ None → z ≡ any_of x y z
found-rest x y z f c = λ i. any_of (sym f i) (sym c i) z

module _ {Y : Type 0} (F M R : List ℕ → Option Y) (id : List ℕ) (h : Option Y → Y) where
  all : List ℕ → Option Y
  all q = any_of (F q) (M q) (R q)

  pub at-front : (F id ≡ None → (M id ≡ None) × (R id ≡ None)) → (N : List ℕ → Option Y)
      → ((q : List ℕ) → N q ≡ cond (bytes_eq q id) (Some (h (F q))) (F q))
      → (q : List ℕ) → any_of (N q) (M q) (R q) ≡ cond (bytes_eq q id) (Some (h (any_of (F q) (M q) (R q)))) (any_of (F q) (M q) (R q))
  at-front n N e q = ap (λ x. any_of x (M q) (R q)) (e q) ∙ by (bytes_eq q id) refl
    where
      by : (b : Bool) → bytes_eq q id ≡ b
          → any_of (cond b (Some (h (F q))) (F q)) (M q) (R q) ≡ cond b (Some (h (any_of (F q) (M q) (R q)))) (any_of (F q) (M q) (R q))
      by true s = ap (λ x. Some (h x)) (subst (λ p. F p ≡ any_of (F p) (M p) (R p)) (sym ((bytes_eq-Decides q id).0 s)) (found-front (F id) (M id) (R id) n))
      by false s = refl

  pub at-middle : F id ≡ None → (M id ≡ None → R id ≡ None) → (N : List ℕ → Option Y)
      → ((q : List ℕ) → N q ≡ cond (bytes_eq q id) (Some (h (M q))) (M q))
      → (q : List ℕ) → any_of (F q) (N q) (R q) ≡ cond (bytes_eq q id) (Some (h (any_of (F q) (M q) (R q)))) (any_of (F q) (M q) (R q))
  at-middle f n N e q = ap (λ x. any_of (F q) x (R q)) (e q) ∙ by (bytes_eq q id) refl
    where
      by-two : (y z : Option Y) → (y ≡ None → z ≡ None) → any_of None (Some (h y)) z ≡ Some (h (any_of None y z))
      by-two None z m = ap (λ x. Some (h x)) (sym (m refl))
      by-two (Some y) z m = refl

      by : (b : Bool) → bytes_eq q id ≡ b
          → any_of (F q) (cond b (Some (h (M q))) (M q)) (R q) ≡ cond b (Some (h (any_of (F q) (M q) (R q)))) (any_of (F q) (M q) (R q))
      by true s =
          subst (λ p. any_of (F p) (Some (h (M p))) (R p) ≡ Some (h (any_of (F p) (M p) (R p)))) (sym ((bytes_eq-Decides q id).0 s))
          (subst (λ x. any_of x (Some (h (M id))) (R id) ≡ Some (h (any_of x (M id) (R id)))) (sym f) (by-two (M id) (R id) n))
      by false s = refl

  pub at-rest : F id ≡ None → M id ≡ None → (N : List ℕ → Option Y)
      → ((q : List ℕ) → N q ≡ cond (bytes_eq q id) (Some (h (R q))) (R q))
      → (q : List ℕ) → any_of (F q) (M q) (N q) ≡ cond (bytes_eq q id) (Some (h (any_of (F q) (M q) (R q)))) (any_of (F q) (M q) (R q))
  at-rest f c N e q = ap (λ x. any_of (F q) (M q) x) (e q) ∙ by (bytes_eq q id) refl
    where
      by : (b : Bool) → bytes_eq q id ≡ b
          → any_of (F q) (M q) (cond b (Some (h (R q))) (R q)) ≡ cond b (Some (h (any_of (F q) (M q) (R q)))) (any_of (F q) (M q) (R q))
      by true s =
          subst (λ p. any_of (F p) (M p) (Some (h (R p))) ≡ Some (h (any_of (F p) (M p) (R p)))) (sym ((bytes_eq-Decides q id).0 s))
          (λ i. subst (λ x. any_of x (M id) (Some (h (R id))) ≡ Some (h (any_of x (M id) (R id)))) (sym f)
          (subst (λ x. any_of None x (Some (h (R id))) ≡ Some (h (any_of None x (R id)))) (sym c) refl) i)
      by false s = refl

-- a text is taken from all places
pub at-none : {Y : Type 0} (b : Bool) (x y z : Option Y) → any_of (cond b None x) (cond b None y) (cond b None z) ≡ cond b None (any_of x y z)
at-none true x y z = refl
at-none false x y z = refl

-- Items.

module _ {T S : Type 0} where
  pub items-kept : (ts : List (IndexMap Kept (Vec T Global) S)) (q : List ℕ) → items_kept ts q ≡ option_map (λ v. v.items) (kept_at ts q)
  items-kept ts q = by (slice_get ts _)
    where
      by : (o : Option (IndexMap Kept (Vec T Global) S))
          → option_map_or (λ t. items_at t q) o None ≡ option_map (λ v. v.items) (option_map_or (λ t. at t q) o None)
      by None = refl
      by (Some t) = refl

items-any : {X Y : Type 0} (f : X → Y) (x y z : Option X) → option_map f (any_of x y z) ≡ any_of (option_map f x) (option_map f y) (option_map f z)
items-any f None None z = refl
items-any f None (Some y) z = refl
items-any f (Some x) y z = refl

pub items-found : {T : Type 0} (t : Tables (Vec T Global)) (q : List ℕ)
    → items_found t q ≡ any_of (items_kept t.classes.items q) (items_at t.first q) (items_at_rest t.rest q)
items-found t q =
    items-any (λ v. v.items) (kept_at t.classes.items q) (at t.first q) (rest_at t.rest q)
    ∙ ap (λ o. any_of o (items_at t.first q) (items_at_rest t.rest q)) (sym (items-kept t.classes.items q))

module _ {T : Type 0} where
  none-items : (o : Option (Vec T Global)) → option_map (λ v. v.items) o ≡ None → o ≡ None
  none-items None e = refl
  none-items (Some v) e = absurd (let z : Some v.items ≡ None = e in cc)

-- Places.

module _ {Y : Type 0} where
  place-class : (x y z : Option Y) (p : Place) → cond (is_some x) Class (cond (is_some y) First (cond (is_some z) Rest p)) ≡ Class
      → x ≡ None → (y ≡ None) × (z ≡ None)
  place-class (Some x) y z p e n = absurd (let f : Some x ≡ None = n in cc)
  place-class None (Some y) z p e n = absurd (let f : First ≡ Class = e in cc)
  place-class None None (Some z) p e n = absurd (let f : Rest ≡ Class = e in cc)
  place-class None None None p e n = (refl, refl)

  place-first : (x y z : Option Y) (p : Place) → cond (is_some x) Class (cond (is_some y) First (cond (is_some z) Rest p)) ≡ First
      → (x ≡ None) × (y ≡ None → z ≡ None)
  place-first (Some x) y z p e = absurd (let f : Class ≡ First = e in cc)
  place-first None (Some y) z p e = (refl, λ n. absurd (let f : Some y ≡ None = n in cc))
  place-first None None (Some z) p e = absurd (let f : Rest ≡ First = e in cc)
  place-first None None None p e = (refl, λ n. refl)

  place-rest : (x y z : Option Y) (p : Place) → cond (is_some x) Class (cond (is_some y) First (cond (is_some z) Rest p)) ≡ Rest
      → (x ≡ None) × (y ≡ None)
  place-rest (Some x) y z p e = absurd (let f : Class ≡ Rest = e in cc)
  place-rest None (Some y) z p e = absurd (let f : First ≡ Rest = e in cc)
  place-rest None None z p e = (refl, refl)

  -- a table that gets a new text has room for it
  room-first : (x y z : Option Y) (p : Place) (b : Bool) → cond (is_some x) Class (cond (is_some y) First (cond (is_some z) Rest (cond b First p))) ≡ First
      → (p ≡ First → ⊥) → (is_some y || b) ≡ true
  room-first (Some x) y z p b e n = absurd (let f : Class ≡ First = e in cc)
  room-first None (Some y) z p b e n = refl
  room-first None None (Some z) p b e n = absurd (let f : Rest ≡ First = e in cc)
  room-first None None None p true e n = refl
  room-first None None None p false e n = absurd (n e)

  room-class : (x y z : Option Y) (a b : Bool)
      → cond (is_some x) Class (cond (is_some y) First (cond (is_some z) Rest (cond a First (cond b Class Rest)))) ≡ Class → (is_some x || b) ≡ true
  room-class (Some x) y z a b e = refl
  room-class None (Some y) z a b e = absurd (let f : First ≡ Class = e in cc)
  room-class None None (Some z) a b e = absurd (let f : Rest ≡ Class = e in cc)
  room-class None None None true b e = absurd (let f : First ≡ Class = e in cc)
  room-class None None None false true e = refl
  room-class None None None false false e = absurd (let f : Rest ≡ Class = e in cc)

-- The places of a text among tables.

module _ {V : Type 0} (t : Tables V) (id : List ℕ) where
  pub before-class : Class ≡ place_of t id → kept_at t.classes.items id ≡ None → (at t.first id ≡ None) × (rest_at t.rest id ≡ None)
  before-class e = place-class (kept_at t.classes.items id) (at t.first id) (rest_at t.rest id) _ (sym e)

  pub before-first : First ≡ place_of t id → (kept_at t.classes.items id ≡ None) × (at t.first id ≡ None → rest_at t.rest id ≡ None)
  before-first e = place-first (kept_at t.classes.items id) (at t.first id) (rest_at t.rest id) _ (sym e)

  pub before-rest : Rest ≡ place_of t id → (kept_at t.classes.items id ≡ None) × (at t.first id ≡ None)
  before-rest e = place-rest (kept_at t.classes.items id) (at t.first id) (rest_at t.rest id) _ (sym e)

  pub first-room : First ≡ place_of t id → (is_some (at t.first id) || ltb (size t.first) FEW) ≡ true
  first-room e =
      room-first (kept_at t.classes.items id) (at t.first id) (rest_at t.rest id) (cond (has_room t.classes.items id) Class Rest) (ltb (size t.first) FEW)
      (sym e) (later (has_room t.classes.items id))
    where
      later : (b : Bool) → cond b Class Rest ≡ First → ⊥
      later true f = let z : Class ≡ First = f in cc
      later false f = let z : Rest ≡ First = f in cc

  pub class-room : Class ≡ place_of t id → (is_some (kept_at t.classes.items id) || has_room t.classes.items id) ≡ true
  class-room e =
      room-class (kept_at t.classes.items id) (at t.first id) (rest_at t.rest id) (ltb (size t.first) FEW) (has_room t.classes.items id) (sym e)

-- the same of items
module _ {T : Type 0} (t : Tables (Vec T Global)) (id : List ℕ) where
  none-kept : items_kept t.classes.items id ≡ None → kept_at t.classes.items id ≡ None
  none-kept n = none-items (kept_at t.classes.items id) (sym (items-kept t.classes.items id) ∙ n)

  kept-none : kept_at t.classes.items id ≡ None → items_kept t.classes.items id ≡ None
  kept-none e = items-kept t.classes.items id ∙ ap (option_map (λ (v : Vec T Global). v.items)) e

  pub items-before_class : Class ≡ place_of t id → items_kept t.classes.items id ≡ None → (items_at t.first id ≡ None) × (items_at_rest t.rest id ≡ None)
  items-before_class e n =
      let b = before-class t id e (none-kept n) in
      (ap (option_map (λ (v : Vec T Global). v.items)) b.0, ap (option_map (λ (v : Vec T Global). v.items)) b.1)

  pub items-before_first : First ≡ place_of t id → (items_kept t.classes.items id ≡ None) × (items_at t.first id ≡ None → items_at_rest t.rest id ≡ None)
  items-before_first e =
      let b = before-first t id e in
      (kept-none b.0, λ n. ap (option_map (λ (v : Vec T Global). v.items)) (b.1 (none-items (at t.first id) n)))

  pub items-before_rest : Rest ≡ place_of t id → (items_kept t.classes.items id ≡ None) × (items_at t.first id ≡ None)
  items-before_rest e =
      let b = before-rest t id e in
      (kept-none b.0, ap (option_map (λ (v : Vec T Global). v.items)) b.1)
