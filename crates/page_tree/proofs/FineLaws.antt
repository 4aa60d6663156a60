-- How markup is shown to be fine.
use Rattle.std.proofs.Common.{◌≡◌, ◌≤◌, ℕ, zero, suc, inl, inr, Bool, true, false, ◌&&◌, not, if◌then◌else◌, List, [], ◌∷◌, ◌++◌, map, Some, refl, sym, ap, ◌∙◌, arith, bytes_eq}
use Rattle.std.specs.List.{list_any}
use Rattle.std.specs.Ordering.{nat_cmp, is_lt}
use Rattle.std.specs.Cmp.Lexicographic.{slice_cmp}
use Rattle.std.proofs.lemmas.Bool.{and_parts, and_right, not-true}
use Rattle.ix_base.specs.NcName.{are_allowed}
use Rattle.ix_base.specs.Scope.{local_of, namespace_of, bound_over, scope_under, attribute_name}
use Rattle.ix_base.specs.Trees.{Bound}
use Rattle.ix_base.specs.WrittenMarkup as written
use Rattle.ix_base.specs.WrittenMarkup.{Markup, nothing, words, node, leaf, verbatim}
use Rattle.page_tree.specs.FineMarkup.{scope_in, begins_dark, is_fine_text, is_fine_tag, is_fine, are_plain, names_of, IsPlainTag, are_allowed_values, IsFine, HasValues}
use Rattle.page_tree.specs.Spellings.{read, tag_at}
use Rattle.page_tree.specs.Tags.{declares, bindings, scope_of, same_name, is_expanded, is_same, repeats, misrefers, is_unbound, misnames}
use Rattle.page_constructs.specs.Tokens.{Attribute}
use Rattle.page_constructs.proofs.SpanLaws.{either, clash, or_left, or_right, bytes-one, bytes-same}

-- attributes with other local names
same-apart : (scope : List Bound) (a b : Attribute) → bytes_eq (local_of a.name) (local_of b.name) ≡ false → is_same scope a b ≡ false
same-apart scope a b h =
    let expanded = and_right (is_expanded scope a && is_expanded scope b) (same_name (attribute_name scope a.name) (attribute_name scope b.name))
    (and_right (bytes_eq (attribute_name scope a.name).ns (attribute_name scope b.name).ns) (bytes_eq (local_of a.name) (local_of b.name)) h) in
    rw (written, expanded) refl where
      written : bytes_eq a.name b.name ≡ false
      written = elim (either (bytes_eq a.name b.name)) as (λ x. bytes_eq a.name b.name ≡ false) [
        | inl y ↦ clash (bytes_eq (local_of a.name) (local_of b.name)) (ap (λ n. bytes_eq (local_of a.name) (local_of n)) (sym (bytes-one a.name b.name y)) ∙ bytes-same (local_of a.name)) h
        | inr n ↦ n
      ]

any-apart : (scope : List Bound) (a : written.Attribute) (more : List written.Attribute) → list_any (λ m. bytes_eq (local_of a.name) (local_of m)) (names_of more) ≡ false
    → list_any (is_same scope (read a)) (map read more) ≡ false
any-apart scope a [] h = refl
any-apart scope a (b ∷ more) h =
    rw (same-apart scope (read a) (read b) (or_left (bytes_eq (local_of a.name) (local_of b.name)) (list_any (λ m. bytes_eq (local_of a.name) (local_of m)) (names_of more)) h))
    (any-apart scope a more (or_right (bytes_eq (local_of a.name) (local_of b.name)) (list_any (λ m. bytes_eq (local_of a.name) (local_of m)) (names_of more)) h))

-- what plain names keep
record IsPlain (a : written.Attribute) (more : List written.Attribute) : Type 0 where
  silent : declares (read a) ≡ false
  apart : list_any (λ m. bytes_eq (local_of a.name) (local_of m)) (names_of more) ≡ false
  others : are_plain (names_of more) ≡ true

plain-first : (a : written.Attribute) (more : List written.Attribute) → are_plain (names_of (a ∷ more)) ≡ true → IsPlain a more
plain-first a more h =
    let z = and_parts (not (declares (read a))) (not (list_any (λ m. bytes_eq (local_of a.name) (local_of m)) (names_of more)) && are_plain (names_of more)) h in
    let y = and_parts (not (list_any (λ m. bytes_eq (local_of a.name) (local_of m)) (names_of more))) (are_plain (names_of more)) z.1 in
    record { silent = not-true (declares (read a)) z.0; apart = not-true _ y.0; others = y.1 }

unrepeated : (scope : List Bound) (attrs : List written.Attribute) → are_plain (names_of attrs) ≡ true → repeats scope (map read attrs) ≡ false
unrepeated scope [] h = refl
unrepeated scope (a ∷ more) h = let k = plain-first a more h in rw (any-apart scope a more k.apart) (unrepeated scope more k.others)

pub good-values : (attrs : List written.Attribute) → misrefers (map read attrs) ≡ false
good-values [] = refl
good-values (a ∷ more) = good-values more

unbinding : (at : ℕ) (name : List ℕ) (attrs : List written.Attribute) → are_plain (names_of attrs) ≡ true → bindings (tag_at at name attrs) ≡ []
unbinding at name [] h = refl
unbinding at name (a ∷ more) h = let k = plain-first a more h in rw (k.silent) (unbinding at name more k.others)

all-bound : (scope : List Bound) (attrs : List written.Attribute) → list_any (is_unbound scope) (names_of attrs) ≡ false
    → list_any (λ a. not (declares a) && is_unbound scope a.name) (map read attrs) ≡ false
all-bound scope [] h = refl
all-bound scope (a ∷ more) h =
    rw (and_right (not (declares (read a))) (is_unbound scope a.name) (or_left (is_unbound scope a.name) (list_any (is_unbound scope) (names_of more)) h))
    (all-bound scope more (or_right (is_unbound scope a.name) (list_any (is_unbound scope) (names_of more)) h))

-- a plain tag is fine, and has its parent's scope
pub plain-scope : (scope : List Bound) (name : List ℕ) (attrs : List written.Attribute) → IsPlainTag scope name attrs → scope_in scope name attrs ≡ scope
plain-scope scope name attrs p = ap (scope_under scope) (unbinding 0 name attrs p.plain)

pub plain-fine : (scope : List Bound) (name : List ℕ) (attrs : List written.Attribute) → IsPlainTag scope name attrs → is_fine_tag scope name attrs ≡ true
plain-fine scope name attrs p =
    let same = plain-scope scope name attrs p in
    let tag = tag_at 0 name attrs in
    let named = or_left (is_unbound scope name) (list_any (is_unbound scope) (names_of attrs)) p.bound in
    let others = all-bound scope attrs (or_right (is_unbound scope name) (list_any (is_unbound scope) (names_of attrs)) p.bound) in
    let r : repeats (scope_of scope tag) tag.attrs ≡ false = unrepeated (scope_of scope tag) attrs p.plain in
    let m : misnames (scope_of scope tag) tag ≡ false = ap (λ s. misnames s tag) same ∙ rw (named, others, unbinding 0 name attrs p.plain) refl in
    rw (p.named, p.attributes, r, good-values attrs, m) refl

-- markup with plain tags
pub plain-node : (name : List ℕ) (attrs : List written.Attribute) (kids rest : Markup) (below : ℕ) (scope : List Bound) → IsPlainTag scope name attrs
    → is_fine kids below scope ≡ true → is_fine rest (suc below) scope ≡ true → is_fine (node name attrs kids rest) (suc below) scope ≡ true
plain-node name attrs kids rest below scope p k r =
    rw (plain-fine scope name attrs p) (rw (ap (is_fine kids below) (plain-scope scope name attrs p) ∙ k) r)

pub plain-leaf : (name : List ℕ) (attrs : List written.Attribute) (rest : Markup) (below : ℕ) (scope : List Bound) → IsPlainTag scope name attrs
    → is_fine rest (suc below) scope ≡ true → is_fine (leaf name attrs rest) (suc below) scope ≡ true
plain-leaf name attrs rest below scope p r = rw (plain-fine scope name attrs p) r

pub text-fine : (c : ℕ) (text : List ℕ) (rest : Markup) (depth : ℕ) (scope : List Bound) → are_allowed (c ∷ text) ≡ true → begins_dark rest ≡ false
    → is_fine rest depth scope ≡ true → is_fine (words (c ∷ text) rest) depth scope ≡ true
text-fine c text rest depth scope a b r = rw (a, b) r

-- the same, found by their results
pub nothing-fine : {depth : ℕ} {scope : List Bound} → IsFine nothing depth scope
nothing-fine = record { is = refl }

pub node-fine : {name : List ℕ} {attrs : List written.Attribute} {kids rest : Markup} {below : ℕ} {scope : List Bound} → IsPlainTag scope name attrs → IsFine kids below scope
    → IsFine rest (suc below) scope → IsFine (node name attrs kids rest) (suc below) scope
node-fine {name} {attrs} {kids} {rest} {below} {scope} p k r = record { is = plain-node name attrs kids rest below scope p k.is r.is }

pub leaf-fine : {name : List ℕ} {attrs : List written.Attribute} {rest : Markup} {below : ℕ} {scope : List Bound} → IsPlainTag scope name attrs → IsFine rest (suc below) scope
    → IsFine (leaf name attrs rest) (suc below) scope
leaf-fine {name} {attrs} {rest} {below} {scope} p r = record { is = plain-leaf name attrs rest below scope p r.is }

pub no-values : HasValues []
no-values = record { are = refl }

pub more-values : {name value : List ℕ} {attrs : List written.Attribute} → are_allowed value ≡ true → HasValues attrs → HasValues (record { name = name; value = value } ∷ attrs)
more-values h r = record { are = rw h r.are }

pub values-append : (xs ys : List written.Attribute) → HasValues xs → HasValues ys → HasValues (xs ++ ys)
values-append [] ys h k = k
values-append (x ∷ xs) ys h k = let z = and_parts (are_allowed x.value) (are_allowed_values xs) h.are in more-values z.0 (values-append xs ys (record { are = z.1 }) k)

-- deeper limits
pub deeper : (m : Markup) (depth more : ℕ) (scope : List Bound) → depth ≤ more → is_fine m depth scope ≡ true → is_fine m more scope ≡ true
deeper nothing depth more scope l f = refl
deeper (words text rest) depth more scope l f =
    let z = and_parts (is_fine_text text) (not (begins_dark rest) && is_fine rest depth scope) f in
    let y = and_parts (not (begins_dark rest)) (is_fine rest depth scope) z.1 in
    rw (z.0, y.0) (deeper rest depth more scope l y.1)
deeper (node name attrs kids rest) zero more scope l f = absurd (cc)
deeper (node name attrs kids rest) (suc depth) zero scope l f = absurd (omega arith)
deeper (node name attrs kids rest) (suc depth) (suc more) scope l f =
    let z = and_parts (is_fine_tag scope name attrs) (is_fine kids depth (scope_in scope name attrs) && is_fine rest (suc depth) scope) f in
    let y = and_parts (is_fine kids depth (scope_in scope name attrs)) (is_fine rest (suc depth) scope) z.1 in
    rw (z.0) (rw (deeper kids depth more (scope_in scope name attrs) (omega arith) y.0) (deeper rest (suc depth) (suc more) scope l y.1))
deeper (leaf name attrs rest) zero more scope l f = absurd (cc)
deeper (leaf name attrs rest) (suc depth) zero scope l f = absurd (omega arith)
deeper (leaf name attrs rest) (suc depth) (suc more) scope l f =
    let z = and_parts (is_fine_tag scope name attrs) (is_fine rest (suc depth) scope) f in
    rw (z.0) (deeper rest (suc depth) (suc more) scope l z.1)
deeper (verbatim bytes rest) depth more scope l f = absurd (cc)

pub bytes-swapped : (a b : List ℕ) → bytes_eq a b ≡ false → bytes_eq b a ≡ false
bytes-swapped a b h = elim (either (bytes_eq b a)) as (λ x. bytes_eq b a ≡ false) [
  | inl y ↦ clash (bytes_eq a b) (ap (bytes_eq a) (bytes-one b a y) ∙ bytes-same a) h
  | inr n ↦ n
]

-- look-up in a scope with one more binding
pub bound-here : (scope : List Bound) (b : Bound) (p : List ℕ) → namespace_of (bound_over scope b) p ≡ (if bytes_eq b.prefix p then Some b.ns else namespace_of scope p)
bound-here [] b p = refl
bound-here (x ∷ scope) b p = by_tests (bound-here scope b p) (bytes_eq x.prefix b.prefix) (is_lt (slice_cmp nat_cmp b.prefix x.prefix)) refl where
  by_tests : namespace_of (bound_over scope b) p ≡ (if bytes_eq b.prefix p then Some b.ns else namespace_of scope p) → (e l : Bool) → bytes_eq x.prefix b.prefix ≡ e
      → namespace_of (if e then b ∷ scope else (if l then b ∷ x ∷ scope else x ∷ bound_over scope b)) p ≡ (if bytes_eq b.prefix p then Some b.ns else (if bytes_eq x.prefix p then Some x.ns else namespace_of scope p))
  by_tests ih true l e = elim (either (bytes_eq b.prefix p)) as (λ z. namespace_of (b ∷ scope) p ≡ (if bytes_eq b.prefix p then Some b.ns else (if bytes_eq x.prefix p then Some x.ns else namespace_of scope p))) [
    | inl y ↦ rw y refl
    | inr n ↦ rw (n, ap (λ q. bytes_eq q p) (bytes-one x.prefix b.prefix e) ∙ n) refl
  ]
  by_tests ih false true e = refl
  by_tests ih false false e = elim (either (bytes_eq x.prefix p)) as (λ z. namespace_of (x ∷ bound_over scope b) p ≡ (if bytes_eq b.prefix p then Some b.ns else (if bytes_eq x.prefix p then Some x.ns else namespace_of scope p))) [
    | inl y ↦ rw (y, ap (λ q. bytes_eq b.prefix q) (sym (bytes-one x.prefix p y)) ∙ bytes-swapped x.prefix b.prefix e) refl
    | inr n ↦ rw n ih
  ]
