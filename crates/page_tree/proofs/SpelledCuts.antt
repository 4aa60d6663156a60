-- A construct that is written from markup ends where it was written to end, in front of anything.
use Rattle.std.proofs.Common.{◌≡◌, ℕ, suc, ◌+◌, ◌==◌, Bool, true, false, ◌&&◌, ◌||◌, List, [], ◌∷◌, ◌++◌, length, take, drop, Option, Some, None, option_map, refl, sym, ap, ◌∙◌, arith, append_assoc, length-append, All}
use Rattle.std.specs.List.{list_all}
use Rattle.std.proofs.lemmas.Bool.{and_parts}
use Rattle.std.proofs.lemmas.List.Elements.{All-head, All-tail}
use Rattle.ix_base.specs.Escapes.{ae}
use Rattle.ix_base.specs.NcName.{is_name_char, is_name_start}
use Rattle.ix_base.specs.Scope.{is_qname}
use Rattle.ix_base.specs.WrittenMarkup as written
use Rattle.page_constructs.specs.Constructs.{Byte, values, offset_of, after, after_tag, kind_of, size_by, size, whole_size, settled_or, is_run, with_front, finished}
use Rattle.page_constructs.specs.Forms.{has}
use Rattle.page_tree.specs.Spellings.{HasName, put_first}
use Rattle.page_constructs.specs.declared.kind.Kind.TheVariants.{StartTag, EndTag}
use Rattle.page_constructs.proofs.NameBytes.{is_name_byte, is_qname_byte, qname-bytes, qname-some, name-not}
use Rattle.page_tree.proofs.PieceLaws.{finished-step}
use Rattle.page_constructs.specs.Searches.{further as more}
use Rattle.page_constructs.proofs.SizeLaws.{further-zero as more-zero}
use Rattle.page_constructs.proofs.SpanLaws.{NoneStops, none-all, either, one_number, clash, take-front, drop-front}
use Rattle.page_tree.proofs.SpelledTags.{unquoted, attrs-end}

more-more : (m n : ℕ) (o : Option ℕ) → more m (more n o) ≡ more (m + n) o
more-more m n None = refl
more-more m n (Some k) = ap Some (omega arith)

suc-more : (n : ℕ) (o : Option ℕ) → option_map suc (more n o) ≡ more (suc n) o
suc-more n None = refl
suc-more n (Some k) = ap Some (omega arith)

-- bytes that neither end a tag nor open a quote
ends_plain : ℕ → Bool
ends_plain c = c == 62 || (c == 34 || c == 39)

plain-next : (c : ℕ) (x : List ℕ) → ends_plain c ≡ false → after_tag None (c ∷ x) ≡ option_map suc (after_tag None x)
unfolding ends_plain
plain-next c x h =
    let e = Rattle.page_constructs.proofs.SpanLaws.or_left (c == 62) (c == 34 || c == 39) h in
    let q = Rattle.page_constructs.proofs.SpanLaws.or_right (c == 62) (c == 34 || c == 39) h in
    rw (e, q) refl

plain-skip : (p x : List ℕ) → NoneStops ends_plain p → after_tag None (p ++ x) ≡ more (length p) (after_tag None x)
plain-skip [] x h = sym (more-zero (after_tag None x))
plain-skip (c ∷ p) x h = plain-next c (p ++ x) h.0 ∙ ap (option_map suc) (plain-skip p x h.1) ∙ suc-more (length p) (after_tag None x)

name-plain : (name : List ℕ) → is_qname name ≡ true → NoneStops ends_plain name
unfolding ends_plain is_name_byte is_name_char is_name_start
name-plain name h = none-all ends_plain is_qname_byte (λ c k. rw (name-not 62 c refl k, name-not 34 c refl k, name-not 39 c refl k) refl) name (qname-bytes name h)

quoted-skip : (v x : List ℕ) → has 34 v ≡ false → after_tag (Some 34) (v ++ 34 ∷ x) ≡ more (length v + 1) (after_tag None x)
quoted-skip [] x h = option-suc (after_tag None x) where
  option-suc : (o : Option ℕ) → option_map suc o ≡ more 1 o
  option-suc None = refl
  option-suc (Some k) = ap Some (omega arith)
quoted-skip (c ∷ v) x h =
    let e = Rattle.page_constructs.proofs.SpanLaws.or_left (c == 34) (has 34 v) h in
    let r = Rattle.page_constructs.proofs.SpanLaws.or_right (c == 34) (has 34 v) h in
    rw e (ap (option_map suc) (quoted-skip v x r) ∙ suc-more (length v + 1) (after_tag None x) ∙ ap (λ k. more k (after_tag None x)) (let z : suc (length v + 1) ≡ suc (length v) + 1 = omega arith in z))

attrs-skip : (attrs : List written.Attribute) (end : List ℕ) → All HasName attrs → after_tag None (written.attrs_text attrs end) ≡ more (length (written.attrs_text attrs [])) (after_tag None end)
unfolding ends_plain
attrs-skip [] end h = sym (more-zero (after_tag None end))
attrs-skip (a ∷ attrs) end h =
    let ih = attrs-skip attrs end (All-tail HasName a attrs h) in
    let rest = written.attrs_text attrs end in
    let q : after_tag None (34 ∷ (ae a.value ++ 34 ∷ written.attrs_text attrs end)) ≡ more (suc (length (ae a.value) + 1 + length (written.attrs_text attrs []))) (after_tag None end) =
    ap (option_map suc) (quoted-skip (ae a.value) (written.attrs_text attrs end) (unquoted a.value) ∙ ap (more (length (ae a.value) + 1)) ih ∙ more-more (length (ae a.value) + 1) (length (written.attrs_text attrs [])) (after_tag None end))
    ∙ suc-more (length (ae a.value) + 1 + length (written.attrs_text attrs [])) (after_tag None end) in
    let n = name-plain a.name (All-head HasName a attrs h) in
    ap (option_map suc) (plain-skip a.name (61 ∷ 34 ∷ (ae a.value ++ 34 ∷ written.attrs_text attrs end)) n ∙ ap (more (length a.name)) (ap (option_map suc) q ∙ suc-more (suc (length (ae a.value) + 1 + length (written.attrs_text attrs []))) (after_tag None end)))
    ∙ ap (option_map suc) (more-more (length a.name) (suc (suc (length (ae a.value) + 1 + length (written.attrs_text attrs [])))) (after_tag None end))
    ∙ suc-more (length a.name + suc (suc (length (ae a.value) + 1 + length (written.attrs_text attrs [])))) (after_tag None end)
    ∙ ap (λ k. more k (after_tag None end)) (sizes a.name (ae a.value) (written.attrs_text attrs [])) where
      sizes : (n v t : List ℕ) → suc (length n + suc (suc (length v + 1 + length t))) ≡ length (32 ∷ (n ++ 61 ∷ 34 ∷ (v ++ 34 ∷ t)))
      sizes n v t = omega (arith, length-append n (61 ∷ 34 ∷ (v ++ 34 ∷ t)), length-append v (34 ∷ t))

-- a tag of this name
tag-kind : (first : Bool) (name x : List ℕ) → is_qname name ≡ true → kind_of first (60 ∷ (name ++ x)) ≡ StartTag
unfolding kind_of is_name_byte is_name_char is_name_start
tag-kind first [] x h = absurd (qname-some [] h refl)
tag-kind first (c ∷ name) x h =
    let k = and_parts (is_qname_byte c) (list_all is_qname_byte name) (qname-bytes (c ∷ name) h) in
    rw (name-not 63 c refl k.0, name-not 33 c refl k.0, name-not 47 c refl k.0) refl

tag-size : (first : Bool) (name : List ℕ) (attrs : List written.Attribute) (end : List ℕ) (k : ℕ) → is_qname name ≡ true → All HasName attrs → after_tag None end ≡ Some k
    → size first (60 ∷ (name ++ written.attrs_text attrs end)) ≡ Some (1 + (length name + (length (written.attrs_text attrs []) + k)))
unfolding size_by
tag-size first name attrs end k n h e =
    ap (λ z. size_by z (60 ∷ (name ++ written.attrs_text attrs end))) (tag-kind first name (written.attrs_text attrs end) n)
    ∙ ap (with_front 1) (plain-skip name (written.attrs_text attrs end) (name-plain name n) ∙ ap (more (length name)) (attrs-skip attrs end h ∙ ap (more (length (written.attrs_text attrs []))) e))
    ∙ ap Some (omega arith)

pub start-size : (first : Bool) (name : List ℕ) (attrs : List written.Attribute) (rest : List ℕ) → is_qname name ≡ true → All HasName attrs
    → (kind_of first (written.start_text name attrs ++ rest) ≡ StartTag) × (size first (written.start_text name attrs ++ rest) ≡ Some (length (written.start_text name attrs)))
start-size first name attrs rest n h = parts where
  whole : written.start_text name attrs ++ rest ≡ 60 ∷ (name ++ written.attrs_text attrs (62 ∷ rest))
  whole = ap (λ x. 60 ∷ x) (append_assoc name (written.attrs_text attrs (62 ∷ [])) rest) ∙ ap (λ x. 60 ∷ (name ++ (x ++ rest))) (attrs-end attrs (62 ∷ []))
      ∙ ap (λ x. 60 ∷ (name ++ x)) (append_assoc (written.attrs_text attrs []) (62 ∷ []) rest ∙ sym (attrs-end attrs (62 ∷ rest)))

  long : 1 + (length name + (length (written.attrs_text attrs []) + 1)) ≡ length (written.start_text name attrs)
  long = omega (arith, length-append name (written.attrs_text attrs (62 ∷ [])), ap length (attrs-end attrs (62 ∷ [])), length-append (written.attrs_text attrs []) (62 ∷ []))

  parts : (kind_of first (written.start_text name attrs ++ rest) ≡ StartTag) × (size first (written.start_text name attrs ++ rest) ≡ Some (length (written.start_text name attrs)))
  parts = (ap (kind_of first) whole ∙ tag-kind first name (written.attrs_text attrs (62 ∷ rest)) n, ap (size first) whole ∙ tag-size first name attrs (62 ∷ rest) 1 n h refl ∙ ap Some long)

pub leaf-size : (first : Bool) (name : List ℕ) (attrs : List written.Attribute) (rest : List ℕ) → is_qname name ≡ true → All HasName attrs
    → (kind_of first (written.leaf_text name attrs ++ rest) ≡ StartTag) × (size first (written.leaf_text name attrs ++ rest) ≡ Some (length (written.leaf_text name attrs)))
leaf-size first name attrs rest n h = parts where
  whole : written.leaf_text name attrs ++ rest ≡ 60 ∷ (name ++ written.attrs_text attrs (47 ∷ 62 ∷ rest))
  whole = ap (λ x. 60 ∷ x) (append_assoc name (written.attrs_text attrs (47 ∷ 62 ∷ [])) rest) ∙ ap (λ x. 60 ∷ (name ++ (x ++ rest))) (attrs-end attrs (47 ∷ 62 ∷ []))
      ∙ ap (λ x. 60 ∷ (name ++ x)) (append_assoc (written.attrs_text attrs []) (47 ∷ 62 ∷ []) rest ∙ sym (attrs-end attrs (47 ∷ 62 ∷ rest)))

  long : 1 + (length name + (length (written.attrs_text attrs []) + 2)) ≡ length (written.leaf_text name attrs)
  long = omega (arith, length-append name (written.attrs_text attrs (47 ∷ 62 ∷ [])), ap length (attrs-end attrs (47 ∷ 62 ∷ [])), length-append (written.attrs_text attrs []) (47 ∷ 62 ∷ []))

  parts : (kind_of first (written.leaf_text name attrs ++ rest) ≡ StartTag) × (size first (written.leaf_text name attrs ++ rest) ≡ Some (length (written.leaf_text name attrs)))
  parts = (ap (kind_of first) whole ∙ tag-kind first name (written.attrs_text attrs (47 ∷ 62 ∷ rest)) n, ap (size first) whole ∙ tag-size first name attrs (47 ∷ 62 ∷ rest) 2 n h refl ∙ ap Some long)

-- an end tag
after-name : (name rest : List ℕ) → NoneStops ends_plain name → after (62 ∷ []) (name ++ 62 ∷ rest) ≡ Some (length name + 1)
unfolding ends_plain
after-name [] rest h = refl
after-name (c ∷ name) rest h =
    let e = Rattle.page_constructs.proofs.SpanLaws.or_left (c == 62) (c == 34 || c == 39) h.0 in rw e (ap (option_map suc) (after-name name rest h.1) ∙ ap Some (omega arith))

pub close-size : (first : Bool) (name rest : List ℕ) → is_qname name ≡ true
    → (kind_of first (written.close_text name ++ rest) ≡ EndTag) × (size first (written.close_text name ++ rest) ≡ Some (length (written.close_text name)))
unfolding kind_of size_by
close-size first name rest n =
    (refl, ap (with_front 2) (ap (after (62 ∷ [])) (append_assoc name (62 ∷ []) rest) ∙ after-name name rest (name-plain name n)) ∙ ap Some (omega (arith, length-append name (62 ∷ []))))

-- what is cut in front of anything: the construct, and then what the rest gives
pub cut-front : (ended first : Bool) (us vs : List Byte) → size first (values (us ++ vs)) ≡ Some (length us)
    → finished ended first (us ++ vs) ≡ put_first (record { kind = kind_of first (values (us ++ vs)); start = offset_of (us ++ vs); text = values us }) (finished ended false vs)
cut-front ended first us vs e =
    let whole : whole_size ended first (values (us ++ vs)) ≡ Some (length us) = ap (λ o. settled_or o (ended && is_run (values (us ++ vs))) (length (values (us ++ vs)))) e in
    finished-step ended first (us ++ vs) (length us) whole
    ∙ ap (λ x. put_first (record { kind = kind_of first (values (us ++ vs)); start = offset_of (us ++ vs); text = values x }) (finished ended false (drop (length us) (us ++ vs)))) (bytes-front us vs)
    ∙ ap (λ x. put_first (record { kind = kind_of first (values (us ++ vs)); start = offset_of (us ++ vs); text = values us }) (finished ended false x)) (bytes-behind us vs) where
      bytes-front : (us vs : List Byte) → take (length us) (us ++ vs) ≡ us
      bytes-front [] vs = refl
      bytes-front (u ∷ us) vs = ap (λ x. u ∷ x) (bytes-front us vs)

      bytes-behind : (us vs : List Byte) → drop (length us) (us ++ vs) ≡ vs
      bytes-behind [] vs = refl
      bytes-behind (u ∷ us) vs = bytes-behind us vs
