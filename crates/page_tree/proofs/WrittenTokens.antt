-- The tokens of markup, and that they spell the nodes that it means.
use Rattle.std.proofs.Common.{◌+◌, ◌≡◌, ◌≢◌, ℕ, zero, suc, ◌==◌, ◌⊎◌, inl, inr, Bool, true, false, ◌&&◌, not, List, [], ◌∷◌, ◌++◌, length, Option, Some, None, refl, sym, ap, ◌∙◌, subst, append_assoc, All, codes}
use lib.Utf8.{encode}
use Rattle.std.specs.List.{list_all, list_any}
use Rattle.std.proofs.lemmas.Bool.{and_parts, not-true}
use Rattle.std.proofs.lemmas.List.Elements.{All-nil, All-cons}
use Rattle.ix_base.specs.Escapes.{te, te_ref}
use Rattle.ix_base.specs.NcName.{is_allowed, are_allowed}
use Rattle.ix_base.specs.Scope.{is_qname}
use Rattle.ix_base.specs.Sound.{IsApart}
use Rattle.ix_base.specs.Trees.{Bound}
use Rattle.ix_base.specs.WrittenMarkup as written
use Rattle.ix_base.specs.WrittenMarkup.{Markup, nothing, words, node, leaf, verbatim, start_text, leaf_text, close_text}
use Rattle.page_tree.specs.FineMarkup.{past, head_at, scope_in, nodes_at, begins_dark, is_fine_text, is_fine_attribute, is_fine_tag, is_fine}
use Rattle.page_tree.specs.Page.{AreRuns, Spells}
use Rattle.page_tree.specs.Spellings.{HasName, tag_at, is_markup, ends_reference}
use Rattle.page_tree.specs.Tags.{is_fair, opened}
use Rattle.page_constructs.specs.Tokens as token
use Rattle.page_constructs.specs.Tokens.{Token, start, empty, close, refer}
use Rattle.page_constructs.specs.Values.{spelled, referred}
use Rattle.page_constructs.proofs.SpanLaws.{one_number}

-- a character that is written by this reference
pub record IsRef (c : ℕ) (inner : List ℕ) : Type 0 where
  pub is : te_ref c ≡ Some (inner ++ 59 ∷ [])
  pub opens : list_any ends_reference inner ≡ false
  pub means : spelled (referred inner) ≡ Some (c ∷ [])

-- a character that is written as itself
pub record IsSelf (c : ℕ) : Type 0 where
  pub is : te_ref c ≡ None
  pub plain : is_markup c ≡ false
  pub low : (c == 62) ≡ false

abbrev pub Case : ℕ → Type 0
Case c = IsSelf c ⊎ ((inner : List ℕ) × IsRef c inner)

amp : Case 38
unfolding referred is_allowed encode
amp = inr (codes "amp", record { is = refl; opens = refl; means = refl })

lt : Case 60
unfolding referred is_allowed encode
lt = inr (codes "lt", record { is = refl; opens = refl; means = refl })

gt : Case 62
unfolding referred is_allowed encode
gt = inr (codes "gt", record { is = refl; opens = refl; means = refl })

cr : Case 13
unfolding referred is_allowed encode
cr = inr (codes "#13", record { is = refl; opens = refl; means = refl })

pub te-case : (c : ℕ) → Case c
te-case c = by1 (c == 38) refl where
  by4 : (b : Bool) → (c == 13) ≡ b → (c == 38) ≡ false → (c == 60) ≡ false → (c == 62) ≡ false → Case c
  by4 true e h1 h2 h3 = subst Case (sym (one_number c 13 e)) cr
  by4 false e h1 h2 h3 = inl (record { is = rw (h1, h2, h3, e) refl; plain = rw (h2, h1) refl; low = h3 })

  by3 : (b : Bool) → (c == 62) ≡ b → (c == 38) ≡ false → (c == 60) ≡ false → Case c
  by3 true e h1 h2 = subst Case (sym (one_number c 62 e)) gt
  by3 false e h1 h2 = by4 (c == 13) refl h1 h2 e

  by2 : (b : Bool) → (c == 60) ≡ b → (c == 38) ≡ false → Case c
  by2 true e h1 = subst Case (sym (one_number c 60 e)) lt
  by2 false e h1 = by3 (c == 62) refl h1 e

  by1 : (b : Bool) → (c == 38) ≡ b → Case c
  by1 true e = subst Case (sym (one_number c 38 e)) amp
  by1 false e = by2 (c == 60) refl e

-- the tokens of a text: the front that is pending, and the text behind it
abbrev pub flush : List ℕ → List Token → List Token
flush [] ts = ts
flush (c ∷ a) ts = token.words (c ∷ a) ∷ ts

abbrev pub choose : Option (List ℕ) → List Token → List Token → List Token
choose None x y = x
choose (Some r) x y = y

abbrev pub runs : List ℕ → List ℕ → List Token → List Token
runs [] a ts = flush a ts
runs (c ∷ t) a ts = choose (te_ref c) (runs t (a ++ c ∷ []) ts) (flush a (refer (Some (c ∷ [])) ∷ runs t [] ts))

abbrev pub tokens : Markup → ℕ → List Token → List Token
tokens nothing at ts = ts
tokens (words text rest) at ts = runs text [] (tokens rest (at + length (te text)) ts)
tokens (node name attrs kids rest) at ts =
    start (tag_at at name attrs) ∷ tokens kids (at + length (start_text name attrs)) (close name ∷ tokens rest (past kids (at + length (start_text name attrs)) + length (close_text name)) ts)
tokens (leaf name attrs rest) at ts = empty (tag_at at name attrs) ∷ tokens rest (at + length (leaf_text name attrs)) ts
tokens (verbatim bytes rest) at ts = tokens rest (at + length bytes) ts

flush-append : (a : List ℕ) (us ts : List Token) → flush a (us ++ ts) ≡ flush a us ++ ts
flush-append [] us ts = refl
flush-append (c ∷ a) us ts = refl

runs-append : (t a : List ℕ) (ts : List Token) → runs t a ts ≡ runs t a [] ++ ts
runs-append [] a ts = flush-append a [] ts
runs-append (c ∷ t) a ts = elim (te-case c) as (λ x. runs (c ∷ t) a ts ≡ runs (c ∷ t) a [] ++ ts) [
  | inl k ↦ rw k.is (runs-append t (a ++ c ∷ []) ts)
  | inr k ↦ rw k.1.is (ap (λ x. flush a (refer (Some (c ∷ [])) ∷ x)) (runs-append t [] ts) ∙ flush-append a (refer (Some (c ∷ [])) ∷ runs t [] []) ts)
]

runs-then : (t a : List ℕ) (us ts : List Token) → runs t a (us ++ ts) ≡ runs t a us ++ ts
runs-then t a us ts = runs-append t a (us ++ ts) ∙ sym (append_assoc (runs t a []) us ts) ∙ ap (λ x. x ++ ts) (sym (runs-append t a us))

pub tokens-then : (p : Markup) (at : ℕ) (us ts : List Token) → tokens p at (us ++ ts) ≡ tokens p at us ++ ts
tokens-then nothing at us ts = refl
tokens-then (words text rest) at us ts = ap (runs text []) (tokens-then rest (at + length (te text)) us ts) ∙ runs-then text [] (tokens rest (at + length (te text)) us) ts
tokens-then (node name attrs kids rest) at us ts =
    let own = at + length (start_text name attrs) in
    let far = past kids own + length (close_text name) in
    ap (λ x. start (tag_at at name attrs) ∷ x) (ap (λ x. tokens kids own (close name ∷ x)) (tokens-then rest far us ts) ∙ tokens-then kids own (close name ∷ tokens rest far us) ts)
tokens-then (leaf name attrs rest) at us ts = ap (λ x. empty (tag_at at name attrs) ∷ x) (tokens-then rest (at + length (leaf_text name attrs)) us ts)
tokens-then (verbatim bytes rest) at us ts = tokens-then rest (at + length bytes) us ts

-- a text's runs give the text
flush-runs : (a u : List ℕ) (ts : List Token) → AreRuns u ts → AreRuns (a ++ u) (flush a ts)
flush-runs [] u ts r = r
flush-runs (c ∷ a) u ts r = (u, refl, r)

runs-runs : (t a : List ℕ) → AreRuns (a ++ t) (runs t a [])
runs-runs [] a = flush-runs a [] [] refl
runs-runs (c ∷ t) a = elim (te-case c) as (λ x. AreRuns (a ++ c ∷ t) (runs (c ∷ t) a [])) [
  | inl k ↦ rw k.is (subst (λ x. AreRuns x (runs t (a ++ c ∷ []) [])) (append_assoc a (c ∷ []) t) (runs-runs t (a ++ c ∷ [])))
  | inr k ↦ rw k.1.is (flush-runs a (c ∷ t) (refer (Some (c ∷ [])) ∷ runs t [] []) (t, refl, runs-runs t []))
]

-- what a fine markup keeps
pub fine-text : (t : List ℕ) → is_fine_text t ≡ true → (t ≢ []) × (are_allowed t ≡ true)
fine-text [] h = absurd (cc)
fine-text (c ∷ t) h = ((λ e. absurd (cc)), h)

pub fine-words : (text : List ℕ) (rest : Markup) (depth : ℕ) (scope : List Bound) → is_fine (words text rest) depth scope ≡ true
    → (is_fine_text text ≡ true) × (begins_dark rest ≡ false) × (is_fine rest depth scope ≡ true)
fine-words text rest depth scope h =
    let a = and_parts (is_fine_text text) (not (begins_dark rest) && is_fine rest depth scope) h in
    let b = and_parts (not (begins_dark rest)) (is_fine rest depth scope) a.1 in
    (a.0, not-true (begins_dark rest) b.0, b.1)

-- what the tag of a fine element keeps
pub record IsFineTag (scope : List Bound) (name : List ℕ) (attrs : List written.Attribute) : Type 0 where
  pub named : is_qname name ≡ true
  pub attributes : list_all is_fine_attribute attrs ≡ true
  pub fair : is_fair scope (tag_at 0 name attrs) ≡ true

fine-tag : (scope : List Bound) (name : List ℕ) (attrs : List written.Attribute) → is_fine_tag scope name attrs ≡ true → IsFineTag scope name attrs
fine-tag scope name attrs h =
    let a = and_parts (is_qname name) (list_all is_fine_attribute attrs && is_fair scope (tag_at 0 name attrs)) h in
    let b = and_parts (list_all is_fine_attribute attrs) (is_fair scope (tag_at 0 name attrs)) a.1 in
    record { named = a.0; attributes = b.0; fair = b.1 }

pub record IsFineNode (name : List ℕ) (attrs : List written.Attribute) (kids rest : Markup) (depth : ℕ) (scope : List Bound) : Type 0 where
  pub below : ℕ
  pub deep : depth ≡ suc below
  pub tag : IsFineTag scope name attrs
  pub inner : is_fine kids below (scope_in scope name attrs) ≡ true
  pub others : is_fine rest depth scope ≡ true

pub fine-node : (name : List ℕ) (attrs : List written.Attribute) (kids rest : Markup) (depth : ℕ) (scope : List Bound)
    → is_fine (node name attrs kids rest) depth scope ≡ true → IsFineNode name attrs kids rest depth scope
fine-node name attrs kids rest zero scope h = absurd (cc)
fine-node name attrs kids rest (suc below) scope h =
    let a = and_parts (is_fine_tag scope name attrs) (is_fine kids below (scope_in scope name attrs) && is_fine rest (suc below) scope) h in
    let b = and_parts (is_fine kids below (scope_in scope name attrs)) (is_fine rest (suc below) scope) a.1 in
    record { below = below; deep = refl; tag = fine-tag scope name attrs a.0; inner = b.0; others = b.1 }

pub record IsFineLeaf (name : List ℕ) (attrs : List written.Attribute) (rest : Markup) (depth : ℕ) (scope : List Bound) : Type 0 where
  pub below : ℕ
  pub deep : depth ≡ suc below
  pub tag : IsFineTag scope name attrs
  pub others : is_fine rest depth scope ≡ true

pub fine-leaf : (name : List ℕ) (attrs : List written.Attribute) (rest : Markup) (depth : ℕ) (scope : List Bound)
    → is_fine (leaf name attrs rest) depth scope ≡ true → IsFineLeaf name attrs rest depth scope
fine-leaf name attrs rest zero scope h = absurd (cc)
fine-leaf name attrs rest (suc below) scope h =
    let a = and_parts (is_fine_tag scope name attrs) (is_fine rest (suc below) scope) h in
    record { below = below; deep = refl; tag = fine-tag scope name attrs a.0; others = a.1 }

pub fine-names : (attrs : List written.Attribute) → list_all is_fine_attribute attrs ≡ true → All HasName attrs
fine-names [] h = All-nil HasName
fine-names (a ∷ more) h =
    let z = and_parts (is_fine_attribute a) (list_all is_fine_attribute more) h in
    All-cons HasName a more (and_parts (is_qname a.name) (are_allowed a.value) z.0).0 (fine-names more z.1)

-- the nodes are spelled
apart : (m : Markup) (at depth : ℕ) (scope : List Bound) → begins_dark m ≡ false → IsApart (nodes_at m at scope)
apart nothing at depth scope a = tt
apart (words text rest) at depth scope a = absurd (cc)
apart (node name attrs kids rest) at depth scope a = tt
apart (leaf name attrs rest) at depth scope a = tt
apart (verbatim bytes rest) at depth scope a = absurd (cc)

pub heads : (at : ℕ) (scope : List Bound) (name : List ℕ) (attrs : List written.Attribute) → IsFineTag scope name attrs → opened scope (tag_at at name attrs) ≡ Some (head_at at scope name attrs)
unfolding opened
heads at scope name attrs f = rw f.fair refl

pub spells : (m : Markup) (at depth : ℕ) (scope : List Bound) → is_fine m depth scope ≡ true → Spells (nodes_at m at scope) depth scope (tokens m at [])
spells nothing at depth scope f = refl
spells (words text rest) at depth scope f =
    let k = fine-words text rest depth scope f in (
      (fine-text text k.0).0,
      apart rest (at + length (te text)) depth scope k.1,
      record {
        front = runs text [] [];
        rest = tokens rest (at + length (te text)) [];
        splits = runs-append text [] (tokens rest (at + length (te text)) []);
        first = runs-runs text [];
        second = spells rest (at + length (te text)) depth scope k.2;
      },
    )
spells (node name attrs kids rest) at depth scope f =
    let k = fine-node name attrs kids rest depth scope f in
    let own = at + length (start_text name attrs) in
    let far = past kids own + length (close_text name) in
    let inner = tokens kids own [] in
    let others = tokens rest far [] in
    record {
      front = [];
      rest = start (tag_at at name attrs) ∷ tokens kids own (close name ∷ others);
      splits = refl;
      first = refl;
      second = record {
        front = start (tag_at at name attrs) ∷ (inner ++ close name ∷ []);
        rest = others;
        splits = ap (λ x. start (tag_at at name attrs) ∷ x) (tokens-then kids own [] (close name ∷ others) ∙ sym (append_assoc inner (close name ∷ []) others));
        first = record { tag = tag_at at name attrs; below = k.below; deep = k.deep; heads = heads at scope name attrs k.tag; tags = inr (inner, refl, spells kids own k.below (scope_in scope name attrs) k.inner) };
        second = spells rest far depth scope k.others;
      };
    }
spells (leaf name attrs rest) at depth scope f =
    let k = fine-leaf name attrs rest depth scope f in
    record {
      front = [];
      rest = empty (tag_at at name attrs) ∷ tokens rest (at + length (leaf_text name attrs)) [];
      splits = refl;
      first = refl;
      second = record {
        front = empty (tag_at at name attrs) ∷ [];
        rest = tokens rest (at + length (leaf_text name attrs)) [];
        splits = refl;
        first = record { tag = tag_at at name attrs; below = k.below; deep = k.deep; heads = heads at scope name attrs k.tag; tags = inl (refl, refl) };
        second = spells rest (at + length (leaf_text name attrs)) depth scope k.others;
      };
    }
spells (verbatim bytes rest) at depth scope f = absurd (cc)
