-- Elements none of which has a target, so that all targets are the default one.
use Rattle.std.proofs.Common.{◌≡◌, ◌∙◌, ◌++◌, ◌∷◌, [], ap, cond, refl, sym, true, false, true≢false, not, ℕ, List, Bool}
use Rattle.std.proofs.Math.Bool.{and-false, or-true}
use Rattle.std.proofs.Math.Dec.{eqb-suc-zero}
use Rattle.std.proofs.lemmas.Bool.{or_parts}
use Rattle.std.specs.List.{filter, flat_map, list_any}
use Rattle.std.specs.Prelude.{◌&&◌, ◌||◌, ◌==◌, bytes_eq, length}
use Rattle.ix_base.specs.Asks.{Asks, are_some}
use Rattle.ix_base.specs.Forms.{is_empty}
use Rattle.ix_base.specs.declared.rule.Rule.TheVariants.{L14}
use Rattle.ix_base.specs.LinkRules.{broken_at, found_at, is_schema_for, lacks_schema, target_of}
use Rattle.ix_base.specs.LocatedElements.{Located, is_fact, is_item, is_kind}
use Rattle.ix_base.specs.declared.kind.Kind.TheVariants as kind
use Rattle.ix_base.specs.Once.{in_order, put}
use Rattle.ix_base.specs.Rows.{row}
use Rattle.ix_base.specs.SortedLists.{text_cmp}
use Rattle.id_table.specs.Model.{has_own_target}
use Rattle.target_contents.specs.Contents.{has_target, is_item_of, target_names, targets_at}
use Rattle.target_contents.specs.Groups.{is_fact_of}
use Rattle.target_contents.proofs.ContentLaws.{items-are}
use Rattle.target_contents.proofs.ListLaws.{items-of}

empty-is : (xs : List ℕ) → not (is_empty xs) ≡ false → xs ≡ []
empty-is [] h = refl
empty-is (x ∷ xs) h = absurd (true≢false h)

pub no-not : (b : Bool) → not b ≡ true → b ≡ false
no-not true h = absurd (true≢false (sym h))
no-not false h = refl

-- the target of such an element
default-of : (e : Located) → has_own_target e ≡ false → target_of e ≡ []
default-of e h = empty-is (target_of e) h

is-default : (q : List ℕ) → bytes_eq q [] ≡ (length q == 0)
is-default [] = refl
is-default (x ∷ xs) = sym (eqb-suc-zero (length xs))

and-is : (a b : Bool) → (a && b) ≡ cond b a false
and-is true true = refl
and-is true false = refl
and-is false true = refl
and-is false false = refl

filter-one : (p : Located → Bool) (b c : Bool) (e : Located) (es : List Located) → p e ≡ cond b c false → filter p es ≡ cond b (filter is_fact es) []
    → cond (p e) (e ∷ filter p es) (filter p es) ≡ cond b (cond c (e ∷ filter is_fact es) (filter is_fact es)) []
filter-one p true c e es h g = (λ i. cond (h i) (e ∷ g i) (g i))
filter-one p false c e es h g = (λ i. cond (h i) (e ∷ g i) (g i))

none-either : (b : Bool) → cond {A = List Located} b [] [] ≡ []
none-either true = refl
none-either false = refl

-- the facts of the default target are all facts, and no other target has any
pub facts-of-default : (q : List ℕ) (es : List Located) → list_any has_own_target es ≡ false → filter (is_fact_of q) es ≡ cond (length q == 0) (filter is_fact es) []
facts-of-default q [] h = sym (none-either (length q == 0))
facts-of-default q (e ∷ es) h =
    let parts = or_parts (has_own_target e) (list_any has_own_target es) h in
    filter-one (is_fact_of q) (length q == 0) (is_fact e) e es
    (ap (λ t. is_fact e && bytes_eq q t) (default-of e parts.0) ∙ ap (λ b. is_fact e && b) (is-default q) ∙ and-is (is_fact e) (length q == 0))
    (facts-of-default q es parts.1)

-- so are the items
pub items-of-default : (q : List ℕ) (es : List Located) → list_any has_own_target es ≡ false → (length q == 0) ≡ true
    → filter is_item es ≡ filter (is_item_of q) es
items-of-default q es h empty =
    sym (items-of es) ∙ ap (filter is_item) (sym (facts-of-default q es h ∙ ap (λ b. cond b (filter is_fact es) []) empty)) ∙ items-are es q

-- Their names.

one-name : (b c : Bool) (rest : List (List ℕ)) → in_order text_cmp rest ≡ cond c ([] ∷ []) [] → in_order text_cmp (row b [] ++ rest) ≡ cond (b || c) ([] ∷ []) []
unfolding in_order
one-name true true rest h = ap (put text_cmp []) h
one-name true false rest h = ap (put text_cmp []) h
one-name false c rest h = h

names-are : (es : List Located) → list_any has_own_target es ≡ false → target_names es ≡ cond (list_any has_target es) ([] ∷ []) []
unfolding in_order
names-are [] h = refl
names-are (e ∷ es) h =
    let parts = or_parts (has_own_target e) (list_any has_own_target es) h in
    ap (λ t. in_order text_cmp (row (has_target e) t ++ flat_map targets_at es)) (default-of e parts.0)
    ∙ one-name (has_target e) (list_any has_target es) (flat_map targets_at es) (names-are es parts.1)

some-fact : (f : Located) (fs es : List Located) → filter is_fact es ≡ f ∷ fs → list_any has_target es ≡ true
some-fact f fs [] h = absurd (let z : [] ≡ f ∷ fs = h in cc)
some-fact f fs (e ∷ es) h = by (is_fact e) refl h (λ g. some-fact f fs es g) where
  by : (b : Bool) → is_fact e ≡ b → cond b (e ∷ filter is_fact es) (filter is_fact es) ≡ f ∷ fs
      → (filter is_fact es ≡ f ∷ fs → list_any has_target es ≡ true) → (has_target e || list_any has_target es) ≡ true
  by true is g later = ap (λ b. (b || is_kind kind.References e) || list_any has_target es) is
  by false is g later = ap (λ b. has_target e || b) (later g) ∙ or-true (has_target e)

-- where there is a fact, the default target is the one
pub only-default : (es fs : List Located) → list_any has_own_target es ≡ false → filter is_fact es ≡ fs → (length fs == 0) ≡ false → target_names es ≡ [] ∷ []
only-default es [] h are some = absurd (let z : true ≡ false = some in cc)
only-default es (f ∷ fs) h are some = names-are es h ∙ ap (λ b. cond b ([] ∷ []) []) (some-fact f fs es are)

-- Their schemas.

with-schema : (a : Asks Located) (e : Located) → has_own_target e ≡ false → are_some a (is_schema_for []) ≡ true → lacks_schema a e ≡ false
with-schema a e h some =
    ap (λ t. is_fact e && not (are_some a (is_schema_for t))) (default-of e h) ∙ ap (λ b. is_fact e && not b) some ∙ and-false (is_fact e)

-- none lacks one where the default target has one
pub none-schemaless : (a : Asks Located) (es : List Located) → list_any has_own_target es ≡ false → are_some a (is_schema_for []) ≡ true
    → flat_map (broken_at a L14) es ≡ []
none-schemaless a [] h some = refl
none-schemaless a (e ∷ es) h some =
    let parts = or_parts (has_own_target e) (list_any has_own_target es) h in
    ap (λ b. row b (found_at e L14) ++ flat_map (broken_at a L14) es) (with-schema a e parts.0 some) ∙ none-schemaless a es parts.1 some
