-- The bytes of markup are cut into constructs that mean its tokens.
use Rattle.std.proofs.Common.{◌+◌, ◌≡◌, ℕ, suc, ◌==◌, inl, inr, Bool, true, false, List, [], ◌∷◌, ◌++◌, length, Some, refl, sym, ap, ◌∙◌, arith, subst, append_assoc, length-append, codes}
use Rattle.std.specs.List.{list_any}
use Rattle.ix_base.specs.Escapes.{te}
use Rattle.ix_base.specs.Scope.{is_qname}
use Rattle.ix_base.specs.Trees.{Bound}
use Rattle.ix_base.specs.WrittenMarkup as written
use Rattle.ix_base.specs.WrittenMarkup.{Markup, nothing, words, node, leaf, verbatim, attrs_text, start_text, leaf_text, close_text}
use Rattle.page_constructs.specs.Constructs.{counted, values, kind_of, size, finished, starts}
use Rattle.page_tree.specs.FineMarkup.{past, scope_in, begins_dark, is_fine}
use Rattle.page_constructs.specs.Forms.{HasForm, has, holds}
use Rattle.page_tree.specs.Page.{AllMean}
use Rattle.page_tree.specs.Spellings.{tag_at, put_first, IsCut, is_markup}
use Rattle.page_constructs.specs.Tokens as token
use Rattle.page_constructs.specs.Tokens.{Token, start, empty, close, refer}
use Rattle.page_constructs.specs.declared.kind.Kind.{Kind}
use Rattle.page_constructs.specs.declared.kind.Kind.TheVariants.{StartTag, EndTag, Reference, Text}
use Rattle.page_tree.proofs.PageMarks.{values-counted}
use Rattle.page_tree.proofs.PlacingLaws.{counted-append}
use Rattle.page_tree.proofs.PlainText.{any-append}
use Rattle.page_constructs.proofs.SpanLaws.{either, clash, or_right, starts-front}
use Rattle.page_tree.proofs.SpelledCuts.{start-size, leaf-size, close-size, cut-front}
use Rattle.page_tree.proofs.SpelledTags.{start-means, leaf-means, close-means}
use Rattle.page_tree.proofs.SpelledRuns.{text-size, text-means, reference-size, reference-means}
use Rattle.page_tree.proofs.WrittenTokens.{te-case, flush, runs, tokens, fine-words, fine-node, fine-leaf, fine-names}

-- bytes one behind the other
length-counted : (at : ℕ) (xs : List ℕ) → length (counted at xs) ≡ length xs
length-counted at [] = refl
length-counted at (x ∷ xs) = ap suc (length-counted (at + 1) xs)

-- the bytes from this offset to the page's good end are whole constructs that mean these tokens
abbrev pub IsRead : Bool → ℕ → List ℕ → List Token → Type 0
IsRead first at cs ts = ((finished true first (counted at cs)).rest ≡ []) × AllMean (finished true first (counted at cs)).constructs ts

-- one more construct in front
pub read-first : (k : Kind) (first : Bool) (at c : ℕ) (p more : List ℕ) (t : Token) (ts : List Token)
    → IsCut k (c ∷ p) first more → HasForm k at (c ∷ p) t → IsRead false (at + length (c ∷ p)) more ts → IsRead first at ((c ∷ p) ++ more) (t ∷ ts)
read-first k first at c p more t ts cut form r =
    let us = counted at (c ∷ p) in
    let vs = counted (at + length (c ∷ p)) more in
    let split : counted at ((c ∷ p) ++ more) ≡ us ++ vs = counted-append at (c ∷ p) more in
    let all : values (us ++ vs) ≡ (c ∷ p) ++ more = ap values (sym split) ∙ values-counted at ((c ∷ p) ++ more) in
    let long : size first (values (us ++ vs)) ≡ Some (length us) = ap (size first) all ∙ cut.1 ∙ ap Some (sym (length-counted at (c ∷ p))) in
    let same : finished true first (counted at ((c ∷ p) ++ more)) ≡ put_first (record { kind = k; start = at; text = c ∷ p }) (finished true false vs) =
    ap (finished true first) split
    ∙ cut-front true first us vs long
    ∙ ap (λ x. put_first (record { kind = x; start = at; text = values us }) (finished true false vs)) (ap (kind_of first) all ∙ cut.0)
    ∙ ap (λ x. put_first (record { kind = k; start = at; text = x }) (finished true false vs)) (values-counted at (c ∷ p)) in
    (ap (λ x. x.rest) same ∙ r.0, subst (λ x. AllMean x.constructs (t ∷ ts)) (sym same) (form, r.1))

-- a text without `<`, `&` and `>`
abbrev IsPlain : List ℕ → Type 0
IsPlain a = (list_any is_markup a ≡ false) × (has 62 a ≡ false)

-- it doesn't hold `]]>`
unclosed : (a : List ℕ) → has 62 a ≡ false → holds (codes "]]>") a ≡ false
unclosed [] h = refl
unclosed (c ∷ a) h = rw (first) (unclosed a (or_right (c == 62) (has 62 a) h)) where
  first : starts (codes "]]>") (c ∷ a) ≡ false
  first = elim (either (starts (codes "]]>") (c ∷ a))) as (λ x. starts (codes "]]>") (c ∷ a) ≡ false) [
    | inl y ↦ clash (has 62 (c ∷ a)) (ap (has 62) (starts-front (codes "]]>") (c ∷ a) y)) h
    | inr n ↦ n
  ]

-- a text before markup reads as its runs
flushed : (a : List ℕ) (at end b : ℕ) (m : List ℕ) (ts : List Token) → IsPlain a → is_markup b ≡ true → end ≡ at + length a → IsRead false end (b ∷ m) ts → IsRead false at (a ++ b ∷ m) (flush a ts)
flushed [] at end b m ts p k e r = subst (λ x. IsRead false x (b ∷ m) ts) (omega arith) r
flushed (c ∷ a) at end b m ts p k e r =
    read-first Text false at c a (b ∷ m) (token.words (c ∷ a)) ts (text-size false c a b m p.0 k) (text-means at (c ∷ a) (unclosed (c ∷ a) p.1)) (subst (λ x. IsRead false x (b ∷ m) ts) e r)

reads-text : (t a : List ℕ) (at end : ℕ) (m : List ℕ) (ts : List Token) → IsPlain a → end ≡ at + (length a + length (te t)) → IsRead false end (60 ∷ m) ts
    → IsRead false at (a ++ (te t ++ 60 ∷ m)) (runs t a ts)
reads-text [] a at end m ts p e r = flushed a at end 60 m ts p refl (omega arith) r
reads-text (c ∷ t) a at end m ts p e r = elim (te-case c) as (λ x. IsRead false at (a ++ (te (c ∷ t) ++ 60 ∷ m)) (runs (c ∷ t) a ts)) [
  | inl k ↦
      let long : end ≡ at + (length (a ++ c ∷ []) + length (te t)) = let z = e in let y = rw k.is at z in omega (arith, length-append a (c ∷ [])) in
      rw k.is (subst (λ x. IsRead false at x (runs t (a ++ c ∷ []) ts)) (append_assoc a (c ∷ []) (te t ++ 60 ∷ m))
      (reads-text t (a ++ c ∷ []) at end m ts (any-append is_markup a (c ∷ []) p.0 (rw k.plain refl), any-append (λ x. x == 62) a (c ∷ []) p.1 (rw k.low refl)) long r))
  | inr k ↦
      let piece = 38 ∷ (k.0 ++ 59 ∷ []) in
      let long : end ≡ (at + length a + length piece) + (length {A = ℕ} [] + length (te t)) = let z = e in let y = rw k.1.is at z in omega (arith, length-append (k.0 ++ 59 ∷ []) (te t)) in
      let rest = reads-text t [] (at + length a + length piece) end m ts (refl, refl) long r in
      let means : HasForm Reference (at + length a) piece (refer (Some (c ∷ []))) = subst (λ x. HasForm Reference (at + length a) piece (refer x)) k.1.means (reference-means (at + length a) k.0) in
      let one : IsRead false (at + length a) (38 ∷ (((k.0 ++ 59 ∷ []) ++ te t) ++ 60 ∷ m)) (refer (Some (c ∷ [])) ∷ runs t [] ts) =
      subst (λ x. IsRead false (at + length a) (38 ∷ x) (refer (Some (c ∷ [])) ∷ runs t [] ts)) (sym (append_assoc (k.0 ++ 59 ∷ []) (te t) (60 ∷ m)))
      (read-first Reference false (at + length a) 38 (k.0 ++ 59 ∷ []) (te t ++ 60 ∷ m) (refer (Some (c ∷ []))) (runs t [] ts) (reference-size false k.0 (te t ++ 60 ∷ m) k.1.opens) means rest) in
      rw k.1.is (flushed a at (at + length a) 38 (((k.0 ++ 59 ∷ []) ++ te t) ++ 60 ∷ m) (refer (Some (c ∷ [])) ∷ runs t [] ts) p refl refl one)
]

opens : (p : Markup) (m : List ℕ) → begins_dark p ≡ false → (n : List ℕ) × (written.written p (60 ∷ m) ≡ 60 ∷ n)
opens nothing m a = (m, refl)
opens (words text rest) m a = absurd (cc)
opens (node name attrs kids rest) m a = ((name ++ attrs_text attrs (62 ∷ [])) ++ written.written kids (close_text name ++ written.written rest (60 ∷ m)), refl)
opens (leaf name attrs rest) m a = ((name ++ attrs_text attrs (47 ∷ 62 ∷ [])) ++ written.written rest (60 ∷ m), refl)
opens (verbatim bytes rest) m a = absurd (cc)

pub reads-close : (at : ℕ) (name m : List ℕ) (ts : List Token) → is_qname name ≡ true → IsRead false (at + length (close_text name)) m ts
    → IsRead false at (close_text name ++ m) (close name ∷ ts)
reads-close at name m ts n r = read-first EndTag false at 60 (47 ∷ (name ++ 62 ∷ [])) m (close name) ts (close-size false name m n) (close-means at name n) r

pub reads : (p : Markup) (at depth : ℕ) (scope : List Bound) (m : List ℕ) (ts : List Token) → is_fine p depth scope ≡ true → IsRead false (past p at) (60 ∷ m) ts
    → IsRead false at (written.written p (60 ∷ m)) (tokens p at ts)
reads nothing at depth scope m ts f r = r
reads (words text rest) at depth scope m ts f r =
    let k = fine-words text rest depth scope f in
    let o = opens rest m k.1 in
    let inner = reads rest (at + length (te text)) depth scope m ts k.2 r in
    rw o.1 (reads-text text [] at (at + length (te text)) o.0 (tokens rest (at + length (te text)) ts) (refl, refl) (omega arith)
    (subst (λ x. IsRead false (at + length (te text)) x (tokens rest (at + length (te text)) ts)) o.1 inner))
reads (node name attrs kids rest) at depth scope m ts f r =
    let k = fine-node name attrs kids rest depth scope f in
    let names = fine-names attrs k.tag.attributes in
    let own = at + length (start_text name attrs) in
    let far = past kids own + length (close_text name) in
    let more = written.written rest (60 ∷ m) in
    read-first StartTag false at 60 (name ++ attrs_text attrs (62 ∷ [])) (written.written kids (close_text name ++ more)) (start (tag_at at name attrs)) (tokens kids own (close name ∷ tokens rest far ts))
    (start-size false name attrs (written.written kids (close_text name ++ more)) k.tag.named names) (start-means at name attrs k.tag.named names)
    (reads kids own k.below (scope_in scope name attrs) (47 ∷ ((name ++ 62 ∷ []) ++ more)) (close name ∷ tokens rest far ts) k.inner
    (reads-close (past kids own) name more (tokens rest far ts) k.tag.named (reads rest far depth scope m ts k.others r)))
reads (leaf name attrs rest) at depth scope m ts f r =
    let k = fine-leaf name attrs rest depth scope f in
    let names = fine-names attrs k.tag.attributes in
    let far = at + length (leaf_text name attrs) in
    read-first StartTag false at 60 (name ++ attrs_text attrs (47 ∷ 62 ∷ [])) (written.written rest (60 ∷ m)) (empty (tag_at at name attrs)) (tokens rest far ts)
    (leaf-size false name attrs (written.written rest (60 ∷ m)) k.tag.named names) (leaf-means at name attrs k.tag.named names) (reads rest far depth scope m ts k.others r)
reads (verbatim bytes rest) at depth scope m ts f r = absurd (cc)
