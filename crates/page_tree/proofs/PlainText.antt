-- What is written from fine markup is text of allowed characters without a carriage return.
use Rattle.std.proofs.Common.{◌≡◌, ◌<◌, ℕ, ◌==◌, ◌⊎◌, inl, inr, Bool, true, false, List, [], ◌∷◌, ◌++◌, Option, Some, None, refl, sym, ap, ◌∙◌, arith, subst, append_assoc, codes}
use Rattle.std.specs.List.{list_all, list_any}
use Rattle.std.specs.Str as str
use Rattle.std.proofs.lemmas.Bool.{and_parts}
use Rattle.std.proofs.lemmas.Bool.Decides.{nat_tests}
use Rattle.ix_base.specs.Escapes.{te, ae, te_ref, ae_ref, escaped}
use Rattle.ix_base.specs.NcName.{is_allowed, are_allowed, is_name_start, is_name_char, is_name_of, is_ncname}
use Rattle.ix_base.specs.Scope.{is_qname, has_prefix, prefix_of, local_of}
use Rattle.ix_base.specs.Trees.{Bound}
use Rattle.ix_base.specs.WrittenMarkup as written
use Rattle.ix_base.specs.WrittenMarkup.{Markup, nothing, words, node, leaf, verbatim, attrs_text, start_text, leaf_text, close_text}
use Rattle.page_tree.specs.FineMarkup.{scope_in, is_fine_attribute, is_fine}
use Rattle.page_constructs.specs.Forms.{has}
use Rattle.page_constructs.proofs.AllowedText.{is_low, low-allowed, allowed-append, allowed-before, allowed-behind}
use Rattle.page_constructs.proofs.NameBytes.{is_name_byte, is_qname_byte, name-chars, qname-bytes, qname-splits, qname-parts, qname-plain, name-not}
use Rattle.page_constructs.proofs.SpanLaws.{either, one_number, or_left, or_right}
use Rattle.page_tree.proofs.WrittenTokens.{fine-text, fine-words, fine-node, fine-leaf}

-- allowed characters, and no carriage return
pub record IsGood (t : List ℕ) : Type 0 where
  pub allowed : are_allowed t ≡ true
  pub unreturned : has 13 t ≡ false

pub any-append : (f : ℕ → Bool) (a b : List ℕ) → list_any f a ≡ false → list_any f b ≡ false → list_any f (a ++ b) ≡ false
any-append f [] b p q = q
any-append f (c ∷ a) b p q = rw (or_left (f c) (list_any f a) p) (any-append f a b (or_right (f c) (list_any f a) p) q)

pub good-append : (a b : List ℕ) → IsGood a → IsGood b → IsGood (a ++ b)
good-append a b p q = record { allowed = allowed-append a b p.allowed q.allowed; unreturned = any-append (λ x. x == 13) a b p.unreturned q.unreturned }

-- a text in ASCII
pub good-low : (t : List ℕ) → list_all is_low t ≡ true → list_all is_allowed t ≡ true → has 13 t ≡ false → IsGood t
good-low t l a r = record { allowed = low-allowed t l a; unreturned = r }

-- the marks of tags
good-marks : (a : List ℕ) → list_all is_low a ≡ true → list_all is_allowed a ≡ true → has 13 a ≡ false → (b : List ℕ) → IsGood b → IsGood (a ++ b)
good-marks a l m r b g = good-append a b (good-low a l m r) g

-- names
name-allowed : (c : ℕ) → is_name_char c ≡ true → is_allowed c ≡ true
unfolding is_name_char is_name_start is_allowed
name-allowed c h = grind (arith, nat_tests)

names-allowed : (cs : List ℕ) → list_all is_name_char cs ≡ true → list_all is_allowed cs ≡ true
names-allowed [] h = refl
names-allowed (c ∷ cs) h =
    let z = and_parts (is_name_char c) (list_all is_name_char cs) h in rw (name-allowed c z.0) (names-allowed cs z.1)

ncname-allowed : (t : List ℕ) → is_ncname t ≡ true → are_allowed t ≡ true
unfolding is_ncname are_allowed
ncname-allowed t h =
    let z = and_parts (str.is_utf8 t) (is_name_of (str.chars t)) h in rw (z.0) (names-allowed (str.chars t) (name-chars (str.chars t) z.1))

qname-allowed : (t : List ℕ) → is_qname t ≡ true → are_allowed t ≡ true
unfolding is_allowed
qname-allowed t h = elim (either (has_prefix t)) as (λ x. are_allowed t ≡ true) [
  | inl y ↦
      let p = qname-parts t y h in
      ap are_allowed (qname-splits t y)
      ∙ allowed-append (prefix_of t) (58 ∷ local_of t) (ncname-allowed (prefix_of t) p.0)
      (allowed-append (58 ∷ []) (local_of t) (low-allowed (58 ∷ []) refl refl) (ncname-allowed (local_of t) p.1))
  | inr n ↦ ncname-allowed t (qname-plain t n h)
]

none-of : (k : ℕ) (t : List ℕ) → is_qname_byte k ≡ false → list_all is_qname_byte t ≡ true → has k t ≡ false
none-of k [] n h = refl
none-of k (c ∷ t) n h =
    let z = and_parts (is_qname_byte c) (list_all is_qname_byte t) h in rw (name-not k c n z.0) (none-of k t n z.1)

good-name : (t : List ℕ) → is_qname t ≡ true → IsGood t
unfolding is_name_char is_name_start is_name_byte
good-name t h = record { allowed = qname-allowed t h; unreturned = none-of 13 t refl (qname-bytes t h) }

-- texts and values: a character that has a reference in the table is in ASCII, and so is the reference
abbrev GoodRef : (ℕ → Option (List ℕ)) → ℕ → Type 0
GoodRef table c = ((table c ≡ None) × ((c == 13) ≡ false)) ⊎ ((r : List ℕ) × (table c ≡ Some r) × (c < 128) × IsGood (38 ∷ r))

abbrev HasGoodRefs : (ℕ → Option (List ℕ)) → Type 0
HasGoodRefs table = (c : ℕ) → GoodRef table c

te-good : HasGoodRefs te_ref
unfolding is_allowed
te-good c = by1 (c == 38) refl where
  by4 : (b : Bool) → (c == 13) ≡ b → (c == 38) ≡ false → (c == 60) ≡ false → (c == 62) ≡ false → GoodRef te_ref c
  by4 true e h1 h2 h3 = inr (codes "#13;", rw (h1, h2, h3, e) refl, subst (λ x. x < 128) (sym (one_number c 13 e)) (omega arith), good-low (codes "&#13;") refl refl refl)
  by4 false e h1 h2 h3 = inl (rw (h1, h2, h3, e) refl, e)

  by3 : (b : Bool) → (c == 62) ≡ b → (c == 38) ≡ false → (c == 60) ≡ false → GoodRef te_ref c
  by3 true e h1 h2 = inr (codes "gt;", rw (h1, h2, e) refl, subst (λ x. x < 128) (sym (one_number c 62 e)) (omega arith), good-low (codes "&gt;") refl refl refl)
  by3 false e h1 h2 = by4 (c == 13) refl h1 h2 e

  by2 : (b : Bool) → (c == 60) ≡ b → (c == 38) ≡ false → GoodRef te_ref c
  by2 true e h1 = inr (codes "lt;", rw (h1, e) refl, subst (λ x. x < 128) (sym (one_number c 60 e)) (omega arith), good-low (codes "&lt;") refl refl refl)
  by2 false e h1 = by3 (c == 62) refl h1 e

  by1 : (b : Bool) → (c == 38) ≡ b → GoodRef te_ref c
  by1 true e = inr (codes "amp;", rw e refl, subst (λ x. x < 128) (sym (one_number c 38 e)) (omega arith), good-low (codes "&amp;") refl refl refl)
  by1 false e = by2 (c == 60) refl e

ae-good : HasGoodRefs ae_ref
unfolding is_allowed
ae-good c = by1 (c == 34) refl where
  by3 : (b : Bool) → (c == 10) ≡ b → (c == 34) ≡ false → (c == 9) ≡ false → GoodRef ae_ref c
  by3 true e h1 h2 = inr (codes "#10;", rw (h1, h2, e) refl, subst (λ x. x < 128) (sym (one_number c 10 e)) (omega arith), good-low (codes "&#10;") refl refl refl)
  by3 false e h1 h2 = elim (te-good c) as (λ x. GoodRef ae_ref c) [
    | inl k ↦ inl (rw (h1, h2, e) k.0, k.1)
    | inr k ↦ inr (k.0, rw (h1, h2, e) k.1, k.2, k.3)
  ]

  by2 : (b : Bool) → (c == 9) ≡ b → (c == 34) ≡ false → GoodRef ae_ref c
  by2 true e h1 = inr (codes "#9;", rw (h1, e) refl, subst (λ x. x < 128) (sym (one_number c 9 e)) (omega arith), good-low (codes "&#9;") refl refl refl)
  by2 false e h1 = by3 (c == 10) refl h1 e

  by1 : (b : Bool) → (c == 34) ≡ b → GoodRef ae_ref c
  by1 true e = inr (codes "quot;", rw e refl, subst (λ x. x < 128) (sym (one_number c 34 e)) (omega arith), good-low (codes "&quot;") refl refl refl)
  by1 false e = by2 (c == 9) refl e

-- behind a front that stands as it is
escaped-good : (table : ℕ → Option (List ℕ)) → HasGoodRefs table → (t a : List ℕ) → are_allowed (a ++ t) ≡ true → has 13 a ≡ false → IsGood (a ++ escaped table t)
escaped-good table h [] a g r = record { allowed = g; unreturned = any-append (λ x. x == 13) a [] r refl }
escaped-good table h (c ∷ t) a g r = elim (h c) as (λ x. IsGood (a ++ escaped table (c ∷ t))) [
  | inl k ↦ rw k.0 (subst IsGood (append_assoc a (c ∷ []) (escaped table t))
      (escaped-good table h t (a ++ c ∷ []) (ap are_allowed (append_assoc a (c ∷ []) t) ∙ g) (any-append (λ x. x == 13) a (c ∷ []) r (rw k.1 refl))))
  | inr k ↦ rw k.1 (good-append a (38 ∷ (k.0 ++ escaped table t)) (record { allowed = (allowed-before a c t k.2 g).0; unreturned = r })
      (good-append (38 ∷ k.0) (escaped table t) k.3 (escaped-good table h t [] (allowed-behind a c t k.2 g) refl)))
]

te-text : (t : List ℕ) → are_allowed t ≡ true → IsGood (te t)
te-text t h = escaped-good te_ref te-good t [] h refl

ae-text : (t : List ℕ) → are_allowed t ≡ true → IsGood (ae t)
ae-text t h = escaped-good ae_ref ae-good t [] h refl

-- tags
good-attrs : (attrs : List written.Attribute) (end : List ℕ) → list_all is_fine_attribute attrs ≡ true → IsGood end → IsGood (attrs_text attrs end)
unfolding is_allowed
good-attrs [] end h g = g
good-attrs (a ∷ more) end h g =
    let z = and_parts (is_fine_attribute a) (list_all is_fine_attribute more) h in
    let y = and_parts (is_qname a.name) (are_allowed a.value) z.0 in
    good-marks (32 ∷ []) refl refl refl (a.name ++ 61 ∷ 34 ∷ (ae a.value ++ 34 ∷ attrs_text more end))
    (good-append a.name (61 ∷ 34 ∷ (ae a.value ++ 34 ∷ attrs_text more end)) (good-name a.name y.0)
    (good-marks (61 ∷ 34 ∷ []) refl refl refl (ae a.value ++ 34 ∷ attrs_text more end)
    (good-append (ae a.value) (34 ∷ attrs_text more end) (ae-text a.value y.1)
    (good-marks (34 ∷ []) refl refl refl (attrs_text more end) (good-attrs more end z.1 g)))))

good-tag : (name : List ℕ) (attrs : List written.Attribute) (end : List ℕ) → is_qname name ≡ true → list_all is_fine_attribute attrs ≡ true → IsGood end → IsGood (60 ∷ (name ++ attrs_text attrs end))
unfolding is_allowed
good-tag name attrs end n h g = good-marks (60 ∷ []) refl refl refl (name ++ attrs_text attrs end) (good-append name (attrs_text attrs end) (good-name name n) (good-attrs attrs end h g))

good-close : (name : List ℕ) → is_qname name ≡ true → IsGood (close_text name)
unfolding is_allowed
good-close name n = good-marks (60 ∷ 47 ∷ []) refl refl refl (name ++ 62 ∷ []) (good-append name (62 ∷ []) (good-name name n) (good-low (62 ∷ []) refl refl refl))

pub good-written : (m : Markup) (depth : ℕ) (scope : List Bound) (more : List ℕ) → is_fine m depth scope ≡ true → IsGood more → IsGood (written.written m more)
unfolding is_allowed
good-written nothing depth scope more f g = g
good-written (words text rest) depth scope more f g =
    let k = fine-words text rest depth scope f in
    good-append (te text) (written.written rest more) (te-text text (fine-text text k.0).1) (good-written rest depth scope more k.2 g)
good-written (node name attrs kids rest) depth scope more f g =
    let k = fine-node name attrs kids rest depth scope f in
    good-append (start_text name attrs) (written.written kids (close_text name ++ written.written rest more)) (good-tag name attrs (62 ∷ []) k.tag.named k.tag.attributes (good-low (62 ∷ []) refl refl refl))
    (good-written kids k.below (scope_in scope name attrs) (close_text name ++ written.written rest more) k.inner
    (good-append (close_text name) (written.written rest more) (good-close name k.tag.named) (good-written rest depth scope more k.others g)))
good-written (leaf name attrs rest) depth scope more f g =
    let k = fine-leaf name attrs rest depth scope f in
    good-append (leaf_text name attrs) (written.written rest more) (good-tag name attrs (47 ∷ 62 ∷ []) k.tag.named k.tag.attributes (good-low (47 ∷ 62 ∷ []) refl refl refl))
    (good-written rest depth scope more k.others g)
good-written (verbatim bytes rest) depth scope more f g = absurd (cc)
