-- Tags that are written from markup are cut where they end, and mean what they were written from.
use Rattle.std.proofs.Common.{◌≡◌, ℕ, ◌==◌, Bool, true, false, if◌then◌else◌, List, [], ◌∷◌, ◌++◌, map, Some, None, option_map, refl, sym, ap, ◌∙◌, append_assoc, append-nil, All, codes}
use lib.Utf8.{encode}
use Rattle.std.proofs.lemmas.List.Elements.{All-head, All-tail}
use Rattle.ix_base.specs.Escapes.{ae, te_ref, put}
use Rattle.ix_base.specs.NcName.{is_allowed}
use Rattle.ix_base.specs.Scope.{is_qname}
use Rattle.ix_base.specs.WrittenMarkup as written
use Rattle.page_constructs.specs.Forms.{has, AreAttributes, IsInTag, HasForm}
use Rattle.page_tree.specs.Spellings.{HasName, read, tag_at}
use Rattle.page_constructs.specs.Tokens.{start, empty, close}
use Rattle.page_constructs.specs.Values.{meant_in, referred, value_of}
use Rattle.page_constructs.specs.declared.kind.Kind.TheVariants.{StartTag, EndTag}
use Rattle.page_constructs.proofs.SpanLaws.{one_number}

-- values: what stands in the quotes has no quote and no `<`, and means the value
escaped : (c : ℕ) (cs : List ℕ) → (P : List ℕ → Type 0) → (c ≡ 34 → P (38 ∷ (codes "quot;" ++ ae cs))) → (c ≡ 9 → P (38 ∷ (codes "#9;" ++ ae cs))) → (c ≡ 10 → P (38 ∷ (codes "#10;" ++ ae cs)))
    → (c ≡ 38 → P (38 ∷ (codes "amp;" ++ ae cs))) → (c ≡ 60 → P (38 ∷ (codes "lt;" ++ ae cs))) → (c ≡ 62 → P (38 ∷ (codes "gt;" ++ ae cs))) → (c ≡ 13 → P (38 ∷ (codes "#13;" ++ ae cs)))
    → ((c == 34) ≡ false → (c == 9) ≡ false → (c == 10) ≡ false → (c == 38) ≡ false → (c == 60) ≡ false → P (c ∷ ae cs)) → P (ae (c ∷ cs))
escaped c cs P quote tab feed amp lt gt cr plain = by1 (c == 34) refl where
  by7 : (b : Bool) → (c == 13) ≡ b → (c == 34) ≡ false → (c == 9) ≡ false → (c == 10) ≡ false → (c == 38) ≡ false → (c == 60) ≡ false → P (put (if b then Some (codes "#13;") else None) c (ae cs))
  by7 true e h1 h2 h3 h4 h5 = cr (one_number c 13 e)
  by7 false e h1 h2 h3 h4 h5 = plain h1 h2 h3 h4 h5

  by6 : (b : Bool) → (c == 62) ≡ b → (c == 34) ≡ false → (c == 9) ≡ false → (c == 10) ≡ false → (c == 38) ≡ false → (c == 60) ≡ false → P (put (if b then Some (codes "gt;") else (if c == 13 then Some (codes "#13;") else None)) c (ae cs))
  by6 true e h1 h2 h3 h4 h5 = gt (one_number c 62 e)
  by6 false e h1 h2 h3 h4 h5 = by7 (c == 13) refl h1 h2 h3 h4 h5

  by5 : (b : Bool) → (c == 60) ≡ b → (c == 34) ≡ false → (c == 9) ≡ false → (c == 10) ≡ false → (c == 38) ≡ false → P (put (if b then Some (codes "lt;") else (if c == 62 then Some (codes "gt;") else (if c == 13 then Some (codes "#13;") else None))) c (ae cs))
  by5 true e h1 h2 h3 h4 = lt (one_number c 60 e)
  by5 false e h1 h2 h3 h4 = by6 (c == 62) refl h1 h2 h3 h4 e

  by4 : (b : Bool) → (c == 38) ≡ b → (c == 34) ≡ false → (c == 9) ≡ false → (c == 10) ≡ false
      → P (put (if b then Some (codes "amp;") else (if c == 60 then Some (codes "lt;") else (if c == 62 then Some (codes "gt;") else (if c == 13 then Some (codes "#13;") else None)))) c (ae cs))
  by4 true e h1 h2 h3 = amp (one_number c 38 e)
  by4 false e h1 h2 h3 = by5 (c == 60) refl h1 h2 h3 e

  by3 : (b : Bool) → (c == 10) ≡ b → (c == 34) ≡ false → (c == 9) ≡ false → P (put (if b then Some (codes "#10;") else te_ref c) c (ae cs))
  by3 true e h1 h2 = feed (one_number c 10 e)
  by3 false e h1 h2 = by4 (c == 38) refl h1 h2 e

  by2 : (b : Bool) → (c == 9) ≡ b → (c == 34) ≡ false → P (put (if b then Some (codes "#9;") else (if c == 10 then Some (codes "#10;") else te_ref c)) c (ae cs))
  by2 true e h1 = tab (one_number c 9 e)
  by2 false e h1 = by3 (c == 10) refl h1 e

  by1 : (b : Bool) → (c == 34) ≡ b → P (put (if b then Some (codes "quot;") else (if c == 9 then Some (codes "#9;") else (if c == 10 then Some (codes "#10;") else te_ref c))) c (ae cs))
  by1 true e = quote (one_number c 34 e)
  by1 false e = by2 (c == 9) refl e

pub unquoted : (v : List ℕ) → has 34 (ae v) ≡ false
unquoted [] = refl
unquoted (c ∷ cs) = let ih = unquoted cs in
    escaped c cs (λ t. has 34 t ≡ false) (λ e. ih) (λ e. ih) (λ e. ih) (λ e. ih) (λ e. ih) (λ e. ih) (λ e. ih) (λ h1 h2 h3 h4 h5. rw h1 ih)

unopened : (v : List ℕ) → has 60 (ae v) ≡ false
unopened [] = refl
unopened (c ∷ cs) = let ih = unopened cs in
    escaped c cs (λ t. has 60 t ≡ false) (λ e. ih) (λ e. ih) (λ e. ih) (λ e. ih) (λ e. ih) (λ e. ih) (λ e. ih) (λ h1 h2 h3 h4 h5. rw h5 ih)

one-char : (c d : ℕ) (v : List ℕ) → c ≡ d → Some (d ∷ v) ≡ Some (c ∷ v)
one-char c d v e = ap (λ x. Some (x ∷ v)) (sym e)

value-means : (v : List ℕ) → value_of (ae v) ≡ Some v
unfolding meant_in referred is_allowed encode
value-means [] = refl
value-means (c ∷ cs) = let ih = value-means cs in
    escaped c cs (λ t. meant_in None t ≡ Some (c ∷ cs))
    (λ e. ap (option_map (λ more. 34 ∷ more)) ih ∙ one-char c 34 cs e)
    (λ e. ap (option_map (λ more. 9 ∷ more)) ih ∙ one-char c 9 cs e)
    (λ e. ap (option_map (λ more. 10 ∷ more)) ih ∙ one-char c 10 cs e)
    (λ e. ap (option_map (λ more. 38 ∷ more)) ih ∙ one-char c 38 cs e)
    (λ e. ap (option_map (λ more. 60 ∷ more)) ih ∙ one-char c 60 cs e)
    (λ e. ap (option_map (λ more. 62 ∷ more)) ih ∙ one-char c 62 cs e)
    (λ e. ap (option_map (λ more. 13 ∷ more)) ih ∙ one-char c 13 cs e)
    (λ h1 h2 h3 h4 h5. rw (h4, h2, h3) (ap (option_map (λ more. c ∷ more)) ih))

-- attributes
pub attrs-end : (attrs : List written.Attribute) (end : List ℕ) → written.attrs_text attrs end ≡ written.attrs_text attrs [] ++ end
attrs-end [] end = refl
attrs-end (a ∷ more') end =
    ap (λ x. 32 ∷ (a.name ++ 61 ∷ 34 ∷ (ae a.value ++ 34 ∷ x))) (attrs-end more' end)
    ∙ ap (λ x. 32 ∷ (a.name ++ 61 ∷ 34 ∷ x)) (sym (append_assoc (ae a.value) (34 ∷ written.attrs_text more' []) end))
    ∙ ap (λ x. 32 ∷ x) (sym (append_assoc a.name (61 ∷ 34 ∷ (ae a.value ++ 34 ∷ written.attrs_text more' [])) end))

attrs-form : (attrs : List written.Attribute) → All HasName attrs → AreAttributes (map read attrs) (written.attrs_text attrs [])
attrs-form [] h = refl
attrs-form (a ∷ more') h = record {
  white = 32 ∷ [];
  behind = 61 ∷ 34 ∷ (ae a.value ++ 34 ∷ written.attrs_text more' []);
  raw = ae a.value;
  more = written.attrs_text more' [];
  splits = refl;
  apart = λ e. absurd (cc);
  are_white = refl;
  name = All-head HasName a more' h;
  equal = record { front = []; back = []; quote = 34; splits = refl; front_white = refl; back_white = refl; quotes = refl; unquoted = unquoted a.value };
  closed = unopened a.value;
  value = sym (value-means a.value);
  rest = attrs-form more' (All-tail HasName a more' h);
}

in-tag : (at : ℕ) (name : List ℕ) (attrs : List written.Attribute) → is_qname name ≡ true → All HasName attrs → IsInTag (tag_at at name attrs) (name ++ written.attrs_text attrs [])
in-tag at name attrs n h = record { rest = written.attrs_text attrs []; splits = refl; name = n; attributes = attrs-form attrs h }

tag-text : (name : List ℕ) (attrs : List written.Attribute) (end : List ℕ) → 60 ∷ (name ++ written.attrs_text attrs end) ≡ 60 ∷ ((name ++ written.attrs_text attrs []) ++ end)
tag-text name attrs end = ap (λ x. 60 ∷ (name ++ x)) (attrs-end attrs end) ∙ ap (λ x. 60 ∷ x) (sym (append_assoc name (written.attrs_text attrs []) end))

pub start-means : (at : ℕ) (name : List ℕ) (attrs : List written.Attribute) → is_qname name ≡ true → All HasName attrs → HasForm StartTag at (written.start_text name attrs) (start (tag_at at name attrs))
start-means at name attrs n h = (name ++ written.attrs_text attrs [], tag-text name attrs (62 ∷ []), in-tag at name attrs n h, refl)

pub leaf-means : (at : ℕ) (name : List ℕ) (attrs : List written.Attribute) → is_qname name ≡ true → All HasName attrs → HasForm StartTag at (written.leaf_text name attrs) (empty (tag_at at name attrs))
leaf-means at name attrs n h = (name ++ written.attrs_text attrs [], tag-text name attrs (47 ∷ 62 ∷ []), in-tag at name attrs n h, refl)

pub close-means : (at : ℕ) (name : List ℕ) → is_qname name ≡ true → HasForm EndTag at (written.close_text name) (close name)
close-means at name n = ([], ap (λ x. 60 ∷ 47 ∷ (x ++ 62 ∷ [])) (sym (append-nil name)), n, refl)
