-- The ends of relationships, and the rules on them.
use Rattle.std.proofs.Common.{◌≡◌, ◌∙◌, ◌++◌, ℕ, Bool, true, false, cond, not, ◌||◌, List, [], ◌∷◌, refl, sym, ap, Option, Some, None, is_some, rules, arith}
use Rattle.std.proofs.lemmas.Slice.Eq.{bytes_eq-Decides}
use Rattle.std.proofs.lemmas.List.Elements.{filter_map-append}
use Rattle.std.specs.Prelude.{◌&&◌, bytes_eq, is_none}
use Rattle.std.specs.Option.{option_to_list}
use Rattle.std.specs.List.{cons_option, filter, filter_map, find, list_any}
use Rattle.ix_base.specs.Asks.{Asks, if_such}
use Rattle.ix_base.specs.Ids.{one_such, sole}
use Rattle.ix_base.specs.LinkRules.{are_any, goes_to_nothing, is_end, is_footnote, is_relationship, named_by, same_target, target_of, to_ids}
use Rattle.ix_base.specs.LocatedElements.{Located, is_fact}
use Rattle.id_table.specs.Tables.{all_located}
use Rattle.footnotes.specs.declared.relationships.Relationship.{Relationship}
use Rattle.footnotes.specs.NamedEnds.{seen, IsKnown}

-- one more id
cons-nil : {Y : Type 0} (o : Option Y) → cons_option o [] ≡ option_to_list o
cons-nil None = refl
cons-nil (Some y) = refl

pub named-one : {X Y : Type 0} (f : X → Option Y) (x : X) → filter_map f (x ∷ []) ≡ option_to_list (f x)
named-one f x = cons-nil (f x)

pub fact-end : (e : Located) → is_fact e ≡ true → is_end e ≡ true
fact-end e h = ap (λ b. b || is_footnote e) h

by-true : (b : Bool) → (b || true) ≡ true
by-true true = refl
by-true false = refl

pub note-end : (e : Located) → is_footnote e ≡ true → is_end e ≡ true
note-end e h = ap (λ b. is_fact e || b) h ∙ by-true (is_fact e)

-- those of one sort among those of a wider one
module _ (p q : Located → Bool) (h : (e : Located) → p e ≡ true → q e ≡ true) where
  kept : (x : Located) (xs ys : List Located) (b c : Bool) → p x ≡ b → q x ≡ c → xs ≡ filter p ys
      → cons_option (cond b (Some x) None) xs ≡ filter p (cons_option (cond c (Some x) None) ys)
  kept x xs ys true true e f r = ap (λ l. x ∷ l) r ∙ sym (ap (λ b. cond b (x ∷ filter p ys) (filter p ys)) e)
  kept x xs ys true false e f r = let g : true ≡ false = sym (h x e) ∙ f in absurd (cc)
  kept x xs ys false true e f r = r ∙ sym (ap (λ b. cond b (x ∷ filter p ys) (filter p ys)) e)
  kept x xs ys false false e f r = r

  step : (o : Option Located) (xs ys : List Located) → xs ≡ filter p ys → cons_option (if_such p o) xs ≡ filter p (cons_option (if_such q o) ys)
  step None xs ys r = r
  step (Some x) xs ys r = kept x xs ys (p x) (q x) refl refl r

  pub named-wider : (a : Asks Located) (ids : List (List ℕ)) → named_by p a ids ≡ filter p (named_by q a ids)
  named-wider a [] = refl
  named-wider a (id ∷ ids) = step (sole a id) (named_by p a ids) (named_by q a ids) (named-wider a ids)

-- there are any of a sort just where the test finds one
any-step : (p : Located → Bool) (x : Located) (xs : List Located) (b : Bool) → are_any (filter p xs) ≡ list_any p xs → p x ≡ b
    → are_any (cond b (x ∷ filter p xs) (filter p xs)) ≡ (b || list_any p xs)
any-step p x xs true r e = first_of (search rules, grind arith)
any-step p x xs false r e = r

pub any-filter : (p : Located → Bool) (xs : List Located) → are_any (filter p xs) ≡ list_any p xs
any-filter p [] = refl
any-filter p (x ∷ xs) = any-step p x xs (p x) (any-filter p xs) refl

-- the first one is there just where there are any
found-any : (p : Located → Bool) (x : Located) (xs : List Located) (b : Bool) → is_some (find p xs) ≡ list_any p xs
    → is_some (cond b (Some x) (find p xs)) ≡ (b || list_any p xs)
found-any p x xs true r = refl
found-any p x xs false r = r

pub some-find : (p : Located → Bool) (xs : List Located) → is_some (find p xs) ≡ list_any p xs
some-find p [] = refl
some-find p (x ∷ xs) = found-any p x xs (p x) (some-find p xs)

-- L15, from what was found
pub ends-are : (a : Asks Located) (ids : List (List ℕ)) (xs : List Located) → xs ≡ named_by is_end a ids
    → (is_some (find is_fact xs) && list_any is_footnote xs) ≡ (are_any (named_by is_fact a ids) && are_any (named_by is_footnote a ids))
ends-are a ids xs e =
    let facts : is_some (find is_fact xs) ≡ are_any (named_by is_fact a ids) =
    some-find is_fact xs ∙ sym (any-filter is_fact xs) ∙ ap (λ l. are_any (filter is_fact l)) e ∙ ap are_any (sym (named-wider is_fact is_end fact-end a ids)) in
    let notes : list_any is_footnote xs ≡ are_any (named_by is_footnote a ids) =
    sym (any-filter is_footnote xs) ∙ ap (λ l. are_any (filter is_footnote l)) e ∙ ap are_any (sym (named-wider is_footnote is_end note-end a ids)) in
    ap (λ b. b && list_any is_footnote xs) facts ∙ ap (λ b. are_any (named_by is_fact a ids) && b) notes

or-true : (b c : Bool) → b ≡ true → (b || c) ≡ true
or-true b c e = ap (λ x. x || c) e

or-later : (b c : Bool) → c ≡ true → (b || c) ≡ true
or-later b c e = ap (λ x. b || x) e ∙ by-true b

or-none : (b c : Bool) → b ≡ false → c ≡ false → (b || c) ≡ false
or-none b c e f = ap (λ x. x || c) e ∙ f

or-first : (b c : Bool) → (b || c) ≡ false → b ≡ false
or-first true c h = h
or-first false c h = refl

or-second : (b c : Bool) → (b || c) ≡ false → c ≡ false
or-second true c h = absurd (cc)
or-second false c h = h

or-assoc : (a b c : Bool) → ((a || b) || c) ≡ (a || (b || c))
or-assoc true b c = refl
or-assoc false b c = refl

pub any-append : {X : Type 0} (p : X → Bool) (xs ys : List X) → list_any p (xs ++ ys) ≡ (list_any p xs || list_any p ys)
any-append p [] ys = refl
any-append p (x ∷ xs) ys = ap (λ b. p x || b) (any-append p xs ys) ∙ sym (or-assoc (p x) (list_any p xs) (list_any p ys))

any-of : {X : Type 0} (p q : X → Bool) (x : X) (xs : List X) (b : Bool) → list_any q (filter p xs) ≡ list_any (λ y. p y && q y) xs
    → list_any q (cond b (x ∷ filter p xs) (filter p xs)) ≡ ((b && q x) || list_any (λ y. p y && q y) xs)
any-of p q x xs true r = ap (λ b. q x || b) r
any-of p q x xs false r = r

-- some of a sort pass a test
pub any-among : {X : Type 0} (p q : X → Bool) (xs : List X) → list_any q (filter p xs) ≡ list_any (λ y. p y && q y) xs
any-among p q [] = refl
any-among p q (x ∷ xs) = any-of p q x xs (p x) (any-among p q xs)

-- the first one passes the test
pub find-passes : (p : Located → Bool) (xs : List Located) (x : Located) → find p xs ≡ Some x → p x ≡ true
find-passes p [] x h = absurd (cc)
find-passes p (y ∷ ys) x h = by_cases (p y) refl (find-passes p ys x) h where
  by_cases : (b : Bool) → p y ≡ b → (find p ys ≡ Some x → p x ≡ true) → cond b (Some y) (find p ys) ≡ Some x → p x ≡ true
  by_cases true e k g = let same : y ≡ x = cc in ap p (sym same) ∙ e
  by_cases false e k g = k g

-- whatever the first one passes, one of all passes
pub any-at : (p q : Located → Bool) (xs : List Located) (x : Located) → find p xs ≡ Some x → q x ≡ true → list_any q (filter p xs) ≡ true
any-at p q [] x h t = absurd (cc)
any-at p q (y ∷ ys) x h t = by_cases (p y) (any-at p q ys x) h where
  by_cases : (b : Bool) → (find p ys ≡ Some x → q x ≡ true → list_any q (filter p ys) ≡ true) → cond b (Some y) (find p ys) ≡ Some x
      → list_any q (cond b (y ∷ filter p ys) (filter p ys)) ≡ true
  by_cases true k g = let same : y ≡ x = cc in or-true (q y) _ (ap q same ∙ t)
  by_cases false k g = k g t

-- the element's target isn't this text
abbrev pub differs : List ℕ → Located → Bool
differs t y = not (bytes_eq t (target_of y))

not-false : (b : Bool) → not b ≡ false → b ≡ true
not-false true h = refl
not-false false h = absurd (cc)

-- where none differs from one, no two differ
none-differ : (t : List ℕ) (fs gs : List Located) → list_any (differs t) fs ≡ false → list_any (differs t) gs ≡ false
    → list_any (λ x. list_any (λ y. not (same_target x y)) fs) gs ≡ false
none-differ t fs [] h k = refl
none-differ t fs (g ∷ gs) h k =
    let same : t ≡ target_of g = (bytes_eq-Decides t (target_of g)).0 (not-false (bytes_eq t (target_of g)) (or-first (differs t g) (list_any (differs t) gs) k)) in
    or-none _ _ (ap (λ u. list_any (differs u) fs) (sym same) ∙ h) (none-differ t fs gs h (or-second (differs t g) (list_any (differs t) gs) k))

-- two differ just where one differs from this one of them
pub two-differ : (x : Located) (fs : List Located) → ((q : Located → Bool) → q x ≡ true → list_any q fs ≡ true)
    → list_any (λ x. list_any (λ y. not (same_target x y)) fs) fs ≡ list_any (differs (target_of x)) fs
two-differ x fs is = by_cases (list_any (differs (target_of x)) fs) refl where
  by_cases : (b : Bool) → list_any (differs (target_of x)) fs ≡ b → list_any (λ x. list_any (λ y. not (same_target x y)) fs) fs ≡ list_any (differs (target_of x)) fs
  by_cases true e = is (λ z. list_any (differs (target_of z)) fs) e ∙ sym e
  by_cases false e = none-differ (target_of x) fs fs e e ∙ sym e

all-facts : (a : Asks Located) (ids : List (List ℕ)) → named_by is_fact a ids ≡ filter is_fact (named_by is_fact a ids)
all-facts a ids = named-wider is_fact is_fact (λ e h. h) a ids

-- L16 of a relationship that goes to a fact: one of its facts differs from the first to which it goes
pub targets-differ : (a : Asks Located) (from to : List (List ℕ)) (sources ends : List Located) (x : Located)
    → sources ≡ named_by is_fact a from → ends ≡ named_by is_end a to → find is_fact ends ≡ Some x
    → (list_any (λ y. is_fact y && differs (target_of x) y) sources || list_any (λ y. is_fact y && differs (target_of x) y) ends)
    ≡ (are_any (named_by is_fact a to) && list_any (λ x. list_any (λ y. not (same_target x y)) (named_by is_fact a (from ++ to))) (named_by is_fact a (from ++ to)))
targets-differ a from to sources ends x s e f =
    let q = differs (target_of x) in
    let facts : filter is_fact ends ≡ named_by is_fact a to = ap (filter is_fact) e ∙ sym (named-wider is_fact is_end fact-end a to) in
    let fs : named_by is_fact a (from ++ to) ≡ sources ++ filter is_fact ends =
    filter_map-append (one_such is_fact a) from to ∙ ap (λ l. l ++ named_by is_fact a to) (sym s) ∙ ap (λ l. sources ++ l) (sym facts) in
    let own : filter is_fact sources ≡ sources = ap (filter is_fact) s ∙ sym (all-facts a from) ∙ sym s in
    let first : list_any (λ y. is_fact y && q y) sources ≡ list_any q sources = sym (any-among is_fact q sources) ∙ ap (list_any q) own in
    let second : list_any (λ y. is_fact y && q y) ends ≡ list_any q (filter is_fact ends) = sym (any-among is_fact q ends) in
    let there : are_any (named_by is_fact a to) ≡ true =
    ap are_any (sym facts) ∙ any-filter is_fact ends ∙ sym (some-find is_fact ends) ∙ ap is_some f in
    let is : (p : Located → Bool) → p x ≡ true → list_any p (sources ++ filter is_fact ends) ≡ true =
    λ p t. any-append p sources (filter is_fact ends) ∙ or-later (list_any p sources) _ (any-at is_fact p ends x f t) in
    ap (λ b. b || list_any (λ y. is_fact y && q y) ends) first ∙ ap (λ b. list_any q sources || b) second
    ∙ sym (any-append q sources (filter is_fact ends)) ∙ sym (two-differ x (sources ++ filter is_fact ends) is)
    ∙ ap (λ l. list_any (λ x. list_any (λ y. not (same_target x y)) l) l) (sym fs)
    ∙ sym (ap (λ b. b && list_any (λ x. list_any (λ y. not (same_target x y)) (named_by is_fact a (from ++ to))) (named_by is_fact a (from ++ to))) there)

-- L16 of one that goes to no fact
pub targets-none : (a : Asks Located) (to : List (List ℕ)) (ends : List Located) (b : Bool) → ends ≡ named_by is_end a to → find is_fact ends ≡ None
    → false ≡ (are_any (named_by is_fact a to) && b)
targets-none a to ends b e f =
    let none : are_any (named_by is_fact a to) ≡ false =
    ap are_any (named-wider is_fact is_end fact-end a to ∙ ap (filter is_fact) (sym e)) ∙ any-filter is_fact ends ∙ sym (some-find is_fact ends) ∙ ap is_some f in
    sym (ap (λ c. c && b) none)

-- L15 of a relationship, from what stands with it
pub ends-break : (a : Asks Located) (r : Relationship) (b : Bool) → IsKnown a r → is_relationship (seen r) ≡ true
    → b ≡ (is_some (find is_fact (all_located r.ends.spots.now)) && list_any is_footnote (all_located r.ends.spots.now))
    → (r.ends.is_missing || b) ≡ goes_to_nothing a (seen r)
ends-break a r b k is e =
    ap (λ m. m || b) k.lacks_end
    ∙ ap (λ c. list_any (λ id. is_none (one_such is_end a id)) (to_ids (seen r)) || c) (e ∙ ends-are a (to_ids (seen r)) (all_located r.ends.spots.now) k.ends)
    ∙ sym (ap (λ t. t && (list_any (λ id. is_none (one_such is_end a id)) (to_ids (seen r))
    || are_any (named_by is_fact a (to_ids (seen r))) && are_any (named_by is_footnote a (to_ids (seen r))))) is)
