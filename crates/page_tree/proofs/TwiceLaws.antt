-- An attribute that stands twice in a tag, found from the front by what was seen.
use Rattle.std.proofs.Common.{◌≡◌, ℕ, arith, ◌+◌, ◌<◌, ◌≤◌, drop, length, get_or, Bool, true, false, ◌&&◌, ◌||◌, not, if◌then◌else◌, List, [], ◌∷◌, map, Option, Some, None, refl, sym, ap, ◌∙◌, bytes_eq, Ordering, Less, Equal, Greater}
use Rattle.std.specs.List.{list_any, filter_map, cons_option}
use Rattle.std.specs.Prelude.{unwrap_or}
use Rattle.std.specs.Ordering.{nat_cmp, is_eq, ordering_then, match_ordering}
use Rattle.std.specs.Cmp.Lexicographic.{slice_cmp}
use Rattle.std.specs.BTreeSet.{insert_key}
use Rattle.std.proofs.lemmas.Map.Text.{is_eq-slice_cmp}
use Rattle.ix_base.specs.Trees.{Bound, Named}
use Rattle.ix_base.specs.Scope.{has_prefix, attribute_name}
use Rattle.page_tree.specs.Expansions.{Expansion, expansion, named_pair, expansion_of, prefix_in, known_name, is_unknown, repeats_by}
use Rattle.page_tree.specs.declared.names.PrefixState.TheVariants.{Missing, Known, Unknown}
use Rattle.page_tree.specs.Tags.{binding_of, bound_to, declared_prefix, declares, is_bound, is_expanded, is_unbound, same_name, repeats, valued}
use Rattle.page_constructs.specs.Tokens.{Attribute}
use Rattle.page_constructs.specs.Model.{attribute_of}
use Rattle.page_tree.specs.declared.names.Expanded.{Expanded}
use Rattle.page_constructs.specs.declared.token.Attribute as code
use Rattle.std.specs.Borrow.{Bor}
use Rattle.std.proofs.lemmas.List.{drop_more}
use Rattle.ix_base.proofs.ScopeLemmas.{same-order}

or-swap : (a b c d : Bool) → ((a || b) || (c || d)) ≡ ((a || c) || (b || d))
or-swap true b c d = refl
or-swap false true true d = refl
or-swap false true false d = refl
or-swap false false c d = refl

or-false : (a : Bool) → (a || false) ≡ a
or-false true = refl
or-false false = refl

or-assoc : (a b c : Bool) → (a || (b || c)) ≡ ((a || b) || c)
or-assoc true b c = refl
or-assoc false b c = refl

or-turn : (a b : Bool) → (a || b) ≡ (b || a)
or-turn true true = refl
or-turn true false = refl
or-turn false true = refl
or-turn false false = refl

any-or : {X : Type 0} (p q : X → Bool) (xs : List X) → list_any (λ x. p x || q x) xs ≡ (list_any p xs || list_any q xs)
any-or p q [] = refl
any-or p q (x ∷ xs) = ap (λ b. (p x || q x) || b) (any-or p q xs) ∙ or-swap (p x) (q x) (list_any p xs) (list_any q xs)

any-ext : {X : Type 0} (p q : X → Bool) → ((x : X) → p x ≡ q x) → (xs : List X) → list_any p xs ≡ list_any q xs
any-ext p q h [] = refl
any-ext p q h (x ∷ xs) = ap (λ b. b || list_any p xs) (h x) ∙ ap (λ b. q x || b) (any-ext p q h xs)

any-none : {X : Type 0} (xs : List X) → list_any (λ x. false) xs ≡ false
any-none [] = refl
any-none (x ∷ xs) = any-none xs

any-map : {X Y : Type 0} (p : Y → Bool) (f : X → Y) (xs : List X) → list_any p (map f xs) ≡ list_any (λ x. p (f x)) xs
any-map p f [] = refl
any-map p f (x ∷ xs) = ap (λ b. p (f x) || b) (any-map p f xs)

-- one of these is the same as one of those seen, or as a later one; K are the kept keys, and cmp compares them
module _ {X K : Type 0} (same : X → X → Bool) (turned : (x y : X) → same x y ≡ same y x) (view : K → X) (cmp : K → K → Ordering)
    (compared : (k l : K) → is_eq (cmp k l) ≡ same (view k) (view l)) where
  abbrev pub twice : List K → List X → Bool
  twice seen xs = list_any (λ x. list_any (λ k. same x (view k)) seen) xs || repeats_by same xs

  pub twice-none : (seen : List K) (xs : List X) → seen ≡ [] → twice seen xs ≡ repeats_by same xs
  twice-none seen xs e = ap (λ s. twice s xs) e ∙ ap (λ b. b || repeats_by same xs) (any-none xs)

  keys-view : (k : K) (seen : List K) → list_any (λ l. is_eq (cmp k l)) seen ≡ list_any (λ l. same (view k) (view l)) seen
  keys-view k seen = any-ext (λ l. is_eq (cmp k l)) (λ l. same (view k) (view l)) (compared k) seen

  pub twice-found : (seen : List K) (k : K) (xs : List X) (r : Bool) → list_any (λ l. is_eq (cmp k l)) seen ≡ true → twice seen (view k ∷ xs) ≡ r → true ≡ r
  twice-found seen k xs r found so =
      sym (ap (λ b. (b || list_any (λ x. list_any (λ l. same x (view l)) seen) xs) || (list_any (same (view k)) xs || repeats_by same xs)) (sym (keys-view k seen) ∙ found)) ∙ so

  put-any : (x : X) (seen : List K) (k : K) → list_any (λ l. is_eq (cmp k l)) seen ≡ false → list_any (λ l. same x (view l)) (insert_key cmp seen k) ≡ (same x (view k) || list_any (λ l. same x (view l)) seen)
  put-any x [] k h = refl
  put-any x (l ∷ seen) k h = by_order (λ q. put-any x seen k q) (cmp k l) refl where
    parts : (a b : Bool) → (a || b) ≡ false → b ≡ false
    parts true b e = absurd (cc)
    parts false b e = e

    by_order : (list_any (λ m. is_eq (cmp k m)) seen ≡ false → list_any (λ m. same x (view m)) (insert_key cmp seen k) ≡ (same x (view k) || list_any (λ m. same x (view m)) seen))
        → (o : Ordering) → cmp k l ≡ o → list_any (λ m. same x (view m)) (match_ordering o (k ∷ l ∷ seen) (l ∷ seen) (l ∷ insert_key cmp seen k)) ≡ (same x (view k) || (same x (view l) || list_any (λ m. same x (view m)) seen))
    by_order ih Less e = refl
    by_order ih Equal e = let z : (true || list_any (λ m. is_eq (cmp k m)) seen) ≡ false = rw e at h in absurd (cc)
    by_order ih Greater e =
        ap (λ b. same x (view l) || b) (ih (parts (is_eq (cmp k l)) (list_any (λ m. is_eq (cmp k m)) seen) h))
        ∙ or-assoc (same x (view l)) (same x (view k)) (list_any (λ m. same x (view m)) seen)
        ∙ ap (λ b. b || list_any (λ m. same x (view m)) seen) (or-turn (same x (view l)) (same x (view k)))
        ∙ sym (or-assoc (same x (view k)) (same x (view l)) (list_any (λ m. same x (view m)) seen))

  pub twice-seen : (seen new : List K) (k : K) (xs : List X) (r : Bool) → list_any (λ l. is_eq (cmp k l)) seen ≡ false → new ≡ insert_key cmp seen k → twice seen (view k ∷ xs) ≡ r → twice new xs ≡ r
  twice-seen seen new k xs r apart gains so =
      ap (λ s. twice s xs) gains
      ∙ ap (λ b. b || repeats_by same xs)
      (any-ext (λ x. list_any (λ l. same x (view l)) (insert_key cmp seen k)) (λ x. same x (view k) || list_any (λ l. same x (view l)) seen) (λ x. put-any x seen k apart) xs
      ∙ any-or (λ x. same x (view k)) (λ x. list_any (λ l. same x (view l)) seen) xs
      ∙ ap (λ b. b || list_any (λ x. list_any (λ l. same x (view l)) seen) xs) (any-ext (λ x. same x (view k)) (same (view k)) (λ x. turned x (view k)) xs)
      ∙ or-turn (list_any (same (view k)) xs) (list_any (λ x. list_any (λ l. same x (view l)) seen) xs))
      ∙ sym (or-assoc (list_any (λ x. list_any (λ l. same x (view l)) seen) xs) (list_any (same (view k)) xs) (repeats_by same xs))
      ∙ sym (ap (λ b. (b || list_any (λ x. list_any (λ l. same x (view l)) seen) xs) || (list_any (same (view k)) xs || repeats_by same xs)) (sym (keys-view k seen) ∙ apart)) ∙ so

pub not-true : (b : Bool) → true ≡ not b → b ≡ false
not-true true h = h
not-true false h = refl

pub not-false : (b : Bool) → false ≡ not b → b ≡ true
not-false true h = refl
not-false false h = h

-- expanded names as pairs of texts
pub name-turned : (m n : Named) → same_name m n ≡ same_name n m
name-turned m n = ap (λ b. b && bytes_eq m.local n.local) (same-order m.ns n.ns) ∙ ap (λ b. bytes_eq n.ns m.ns && b) (same-order m.local n.local)

and-turn : (a b : Bool) → (a && b) ≡ (b && a)
and-turn true true = refl
and-turn true false = refl
and-turn false true = refl
and-turn false false = refl

pub pair-compared : (a b c d : List ℕ) → is_eq (ordering_then (slice_cmp nat_cmp a c) (slice_cmp nat_cmp b d)) ≡ (bytes_eq b d && bytes_eq a c)
pair-compared a b c d =
    both (slice_cmp nat_cmp a c) (slice_cmp nat_cmp b d) ∙ ap (λ x. x && is_eq (slice_cmp nat_cmp b d)) (is_eq-slice_cmp a c) ∙ ap (λ x. bytes_eq a c && x) (is_eq-slice_cmp b d)
    ∙ and-turn (bytes_eq a c) (bytes_eq b d) where
      both : (o p : Ordering) → is_eq (ordering_then o p) ≡ (is_eq o && is_eq p)
      both Less p = refl
      both Equal p = refl
      both Greater p = refl

-- written names
abbrev Text : Type 0
Text = Bor (List ℕ)

abbrev text_cmp : Text → Text → Ordering
text_cmp a b = slice_cmp nat_cmp a.now b.now

text-compared : (a b : Text) → is_eq (text_cmp a b) ≡ bytes_eq a.now b.now
text-compared a b = is_eq-slice_cmp a.now b.now

abbrev pub name-twice : List Text → List (List ℕ) → Bool
name-twice seen names = list_any (λ x. list_any (λ (k : Text). bytes_eq x k.now) seen) names || repeats_by bytes_eq names

pub name-none : (seen : List Text) (names : List (List ℕ)) → seen ≡ [] → name-twice seen names ≡ repeats_by bytes_eq names
name-none = twice-none bytes_eq same-order (λ (k : Text). k.now) text_cmp text-compared

module _ (attrs : List code.Attribute) (i : ℕ) (a : code.Attribute) (seen : List Text) (r : Bool) (is : a ≡ get_or attrs i a) (l : i < length attrs) where
  names-next : map (λ x. x.name.name.now) (drop i attrs) ≡ a.name.name.now ∷ map (λ x. x.name.name.now) (drop (i + 1) attrs)
  names-next = ap (map (λ (x : code.Attribute). x.name.name.now)) (drop_more attrs i a l) ∙ ap (λ (y : code.Attribute). y.name.name.now ∷ map (λ (x : code.Attribute). x.name.name.now) (drop (i + 1) attrs)) (sym is)

  pub name-found : list_any (λ k. is_eq (text_cmp a.name.name k)) seen ≡ true → name-twice seen (map (λ x. x.name.name.now) (drop i attrs)) ≡ r → true ≡ r
  name-found found so =
      twice-found bytes_eq same-order (λ (k : Text). k.now) text_cmp text-compared seen a.name.name (map (λ x. x.name.name.now) (drop (i + 1) attrs)) r found
      (ap (name-twice seen) (sym names-next) ∙ so)

  pub name-seen : (new : List Text) → list_any (λ k. is_eq (text_cmp a.name.name k)) seen ≡ false → new ≡ insert_key text_cmp seen a.name.name
      → name-twice seen (map (λ x. x.name.name.now) (drop i attrs)) ≡ r → name-twice new (map (λ x. x.name.name.now) (drop (i + 1) attrs)) ≡ r
  name-seen new apart gains so =
      twice-seen bytes_eq same-order (λ (k : Text). k.now) text_cmp text-compared seen new a.name.name (map (λ x. x.name.name.now) (drop (i + 1) attrs)) r apart gains
      (ap (name-twice seen) (sym names-next) ∙ so)

-- expanded names
abbrev Pair : Type 0
Pair = Text × Text

abbrev pair_cmp : Pair → Pair → Ordering
pair_cmp a b = ordering_then (slice_cmp nat_cmp a.0.now b.0.now) (slice_cmp nat_cmp a.1.now b.1.now)

pair-is : (a b : Pair) → is_eq (pair_cmp a b) ≡ same_name (named_pair a) (named_pair b)
pair-is a b = pair-compared a.0.now a.1.now b.0.now b.1.now

abbrev pub expanded-twice : List Pair → List Named → Bool
expanded-twice seen names = list_any (λ x. list_any (λ (k : Pair). same_name x (named_pair k)) seen) names || repeats_by same_name names

pub expanded-none : (seen : List Pair) (names : List Named) → seen ≡ [] → expanded-twice seen names ≡ repeats_by same_name names
expanded-none = twice-none same_name name-turned named_pair pair_cmp pair-is

-- the names of the attributes from a place on
abbrev from : ℕ → List Expanded → List Named
from i es = filter_map known_name (map expansion (drop i es))

module _ (es : List Expanded) (i : ℕ) (d : Expanded) (seen : List Pair) (r : Bool) (l : i < length es) where
  first : from i es ≡ cons_option (known_name (expansion (get_or es i d))) (from (i + 1) es)
  first = ap (λ xs. filter_map known_name (map expansion xs)) (drop_more es i d l)

  pub expanded-past : None ≡ known_name (expansion (get_or es i d)) → expanded-twice seen (from i es) ≡ r → expanded-twice seen (from (i + 1) es) ≡ r
  expanded-past e so = sym (ap (expanded-twice seen) (first ∙ ap (λ o. cons_option o (from (i + 1) es)) (sym e))) ∙ so

  pub expanded-found : (k : Pair) → Some (named_pair k) ≡ known_name (expansion (get_or es i d)) → list_any (λ p. is_eq (pair_cmp k p)) seen ≡ true → expanded-twice seen (from i es) ≡ r → true ≡ r
  expanded-found k e found so =
      twice-found same_name name-turned named_pair pair_cmp pair-is seen k (from (i + 1) es) r found
      (sym (ap (expanded-twice seen) (first ∙ ap (λ o. cons_option o (from (i + 1) es)) (sym e))) ∙ so)

  pub expanded-seen : (new : List Pair) (k : Pair) → Some (named_pair k) ≡ known_name (expansion (get_or es i d)) → list_any (λ p. is_eq (pair_cmp k p)) seen ≡ false → new ≡ insert_key pair_cmp seen k
      → expanded-twice seen (from i es) ≡ r → expanded-twice new (from (i + 1) es) ≡ r
  expanded-seen new k e apart gains so =
      twice-seen same_name name-turned named_pair pair_cmp pair-is seen new k (from (i + 1) es) r apart gains
      (sym (ap (expanded-twice seen) (first ∙ ap (λ o. cons_option o (from (i + 1) es)) (sym e))) ∙ so)

-- an attribute that stands twice has a written name that does, or an expanded one
module _ (scope : List Bound) where
  abbrev name_if : Bool → Named → Option Named
  name_if b n = if b then Some n else None

  abbrev expanded : Attribute → Option Named
  expanded a = name_if (is_expanded scope a) (attribute_name scope a.name)

  abbrev both-expanded : Attribute → Attribute → Bool
  both-expanded a b = is_expanded scope a && is_expanded scope b && same_name (attribute_name scope a.name) (attribute_name scope b.name)

  any-expanded : (a : Attribute) (as' : List Attribute) → list_any (both-expanded a) as' ≡ (is_expanded scope a && list_any (same_name (attribute_name scope a.name)) (filter_map expanded as'))
  any-expanded a as' = by_test (is_expanded scope a) where
    inner : (bs : List Attribute) → list_any (λ b. is_expanded scope b && same_name (attribute_name scope a.name) (attribute_name scope b.name)) bs
        ≡ list_any (same_name (attribute_name scope a.name)) (filter_map expanded bs)
    inner [] = refl
    inner (b ∷ bs) = by_one (inner bs) (is_expanded scope b) where
      by_one : list_any (λ b. is_expanded scope b && same_name (attribute_name scope a.name) (attribute_name scope b.name)) bs ≡ list_any (same_name (attribute_name scope a.name)) (filter_map expanded bs) → (e : Bool)
          → ((e && same_name (attribute_name scope a.name) (attribute_name scope b.name)) || list_any (λ b. is_expanded scope b && same_name (attribute_name scope a.name) (attribute_name scope b.name)) bs)
          ≡ list_any (same_name (attribute_name scope a.name)) (cons_option (name_if e (attribute_name scope b.name)) (filter_map expanded bs))
      by_one ih true = ap (λ x. same_name (attribute_name scope a.name) (attribute_name scope b.name) || x) ih
      by_one ih false = ih

    by_test : (e : Bool) → list_any (λ b. e && is_expanded scope b && same_name (attribute_name scope a.name) (attribute_name scope b.name)) as'
        ≡ (e && list_any (same_name (attribute_name scope a.name)) (filter_map expanded as'))
    by_test true = inner as'
    by_test false = any-none as'

  split-repeats : (as' : List Attribute) → repeats scope as' ≡ (repeats_by bytes_eq (map (λ a. a.name) as') || repeats_by same_name (filter_map expanded as'))
  split-repeats [] = refl
  split-repeats (a ∷ as') =
      ap (λ b. b || repeats scope as')
      (any-or (λ b. bytes_eq a.name b.name) (both-expanded a) as'
      ∙ ap (λ b. b || list_any (both-expanded a) as') (sym (any-map (bytes_eq a.name) (λ (b : Attribute). b.name) as'))
      ∙ ap (λ b. list_any (bytes_eq a.name) (map (λ b. b.name) as') || b) (any-expanded a as'))
      ∙ ap (λ b. (list_any (bytes_eq a.name) (map (λ b. b.name) as') || (is_expanded scope a && list_any (same_name (attribute_name scope a.name)) (filter_map expanded as'))) || b) (split-repeats as')
      ∙ or-swap (list_any (bytes_eq a.name) (map (λ b. b.name) as')) (is_expanded scope a && list_any (same_name (attribute_name scope a.name)) (filter_map expanded as'))
      (repeats_by bytes_eq (map (λ a. a.name) as')) (repeats_by same_name (filter_map expanded as'))
      ∙ ap (λ b. (list_any (bytes_eq a.name) (map (λ b. b.name) as') || repeats_by bytes_eq (map (λ a. a.name) as')) || b) (by_test (is_expanded scope a)) where
        by_test : (e : Bool) → ((e && list_any (same_name (attribute_name scope a.name)) (filter_map expanded as')) || repeats_by same_name (filter_map expanded as'))
            ≡ repeats_by same_name (cons_option (name_if e (attribute_name scope a.name)) (filter_map expanded as'))
        by_test true = refl
        by_test false = refl

  known-is : (as' : List Attribute) → filter_map known_name (filter_map (expansion_of scope) as') ≡ filter_map expanded as'
  known-is [] = refl
  known-is (a ∷ as') = by_tests (known-is as') (declares a) (has_prefix a.name) (is_bound scope a.name) where
    by_tests : filter_map known_name (filter_map (expansion_of scope) as') ≡ filter_map expanded as' → (d p b : Bool)
        → filter_map known_name (cons_option (if d then None else Some (record { valued = record { name = attribute_name scope a.name; value = unwrap_or a.value [] }; prefix = if p then (if b then Known else Unknown) else Missing })) (filter_map (expansion_of scope) as'))
        ≡ cons_option (name_if (p && not d && b) (attribute_name scope a.name)) (filter_map expanded as')
    by_tests ih true true b = ih
    by_tests ih true false b = ih
    by_tests ih false true true = ap (λ t. attribute_name scope a.name ∷ t) ih
    by_tests ih false true false = ih
    by_tests ih false false b = ih

  pub repeats-split : (as' : List Attribute) (es : List Expansion) → es ≡ filter_map (expansion_of scope) as'
      → repeats scope as' ≡ (repeats_by bytes_eq (map (λ a. a.name) as') || repeats_by same_name (filter_map known_name es))
  repeats-split as' es e = split-repeats as' ∙ ap (λ t. repeats_by bytes_eq (map (λ a. a.name) as') || repeats_by same_name t) (sym (known-is as') ∙ ap (filter_map known_name) (sym e))

  pub unbound-is : (as' : List Attribute) → list_any is_unknown (filter_map (expansion_of scope) as') ≡ list_any (λ a. not (declares a) && is_unbound scope a.name) as'
  unbound-is [] = refl
  unbound-is (a ∷ as') = by_tests (unbound-is as') (declares a) (has_prefix a.name) (is_bound scope a.name) where
    by_tests : list_any is_unknown (filter_map (expansion_of scope) as') ≡ list_any (λ a. not (declares a) && is_unbound scope a.name) as' → (d p b : Bool)
        → list_any is_unknown (cons_option (if d then None else Some (record { valued = record { name = attribute_name scope a.name; value = unwrap_or a.value [] }; prefix = if p then (if b then Known else Unknown) else Missing })) (filter_map (expansion_of scope) as'))
        ≡ ((not d && (p && not b)) || list_any (λ a. not (declares a) && is_unbound scope a.name) as')
    by_tests ih true p b = ih
    by_tests ih false true true = ih
    by_tests ih false true false = refl
    by_tests ih false false b = ih

  pub valued-is : (as' : List Attribute) → map (λ e. e.valued) (filter_map (expansion_of scope) as') ≡ filter_map (valued scope) as'
  valued-is [] = refl
  valued-is (a ∷ as') = by_test (valued-is as') (declares a) where
    by_test : map (λ e. e.valued) (filter_map (expansion_of scope) as') ≡ filter_map (valued scope) as' → (d : Bool)
        → map (λ e. e.valued) (cons_option (if d then None else Some (record { valued = record { name = attribute_name scope a.name; value = unwrap_or a.value [] }; prefix = prefix_in scope a.name })) (filter_map (expansion_of scope) as'))
        ≡ cons_option (if d then None else Some (record { name = attribute_name scope a.name; value = unwrap_or a.value [] })) (filter_map (valued scope) as')
    by_test ih true = ih
    by_test ih false = ap (λ t. record { name = attribute_name scope a.name; value = unwrap_or a.value [] } ∷ t) ih

-- where each attribute is expanded none is a declaration
module _ (scope : List Bound) where
  no-more : (as' : List Attribute) → length (filter_map (expansion_of scope) as') ≤ length as'
  no-more [] = omega arith
  no-more (a ∷ as') = by_test (no-more as') (declares a) where
    by_test : length (filter_map (expansion_of scope) as') ≤ length as' → (d : Bool)
        → length (cons_option (if d then None else Some (record { valued = record { name = attribute_name scope a.name; value = unwrap_or a.value [] }; prefix = prefix_in scope a.name })) (filter_map (expansion_of scope) as'))
        ≤ length (a ∷ as')
    by_test ih true = omega arith
    by_test ih false = omega arith

  pub undeclared : (as' : List Attribute) → length (filter_map (expansion_of scope) as') ≡ length as' → filter_map binding_of as' ≡ []
  undeclared [] e = refl
  undeclared (a ∷ as') e = by_test (undeclared as') (no-more as') (declares a) e where
    by_test : (length (filter_map (expansion_of scope) as') ≡ length as' → filter_map binding_of as' ≡ []) → length (filter_map (expansion_of scope) as') ≤ length as' → (d : Bool)
        → length (cons_option (if d then None else Some (record { valued = record { name = attribute_name scope a.name; value = unwrap_or a.value [] }; prefix = prefix_in scope a.name })) (filter_map (expansion_of scope) as'))
        ≡ length (a ∷ as') → cons_option (if d then bound_to (declared_prefix a) a.value else None) (filter_map binding_of as') ≡ []
    by_test ih l true e = absurd (omega arith)
    by_test ih l false e = ih (omega arith)

pub repeats-short : (scope : List Bound) (attrs : List code.Attribute) → length attrs < 2 → false ≡ repeats scope (map attribute_of attrs)
repeats-short scope [] h = refl
repeats-short scope (a ∷ []) h = refl
repeats-short scope (a ∷ b ∷ attrs) h = absurd (omega arith)

pub attributes-named : (attrs : List code.Attribute) → map (λ a. a.name) (map attribute_of attrs) ≡ map (λ a. a.name.name.now) attrs
attributes-named [] = refl
attributes-named (a ∷ attrs) = ap (λ t. a.name.name.now ∷ t) (attributes-named attrs)
