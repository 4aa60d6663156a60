-- Markup of sound nodes, and their plain text, are of allowed characters.
use Rattle.std.proofs.Common.{◌≡◌, ◌∙◌, ap, sym, refl, ℕ, ◌<◌, ◌≤◌, Bool, true, false, cond, not, List, [], ◌∷◌, ◌++◌, Option, None, Some, option_map, arith, append-nil, bytes_eq, codes, encode_utf8, inl, inr, ◌⊎◌, length, map}
use lib.Utf8.{encodes}
use Rattle.std.proofs.Math.Dec.{leb, ltb}
use Rattle.std.specs.Char.{IsScalar}
use Rattle.std.specs.List.{All, filter, list_all}
use Rattle.std.specs.Prelude.{◌&&◌, ◌||◌, ◌==◌, if◌then◌else◌, is_some, nat_lt}
use Rattle.std.specs.Str.{chars}
use Rattle.std.proofs.lemmas.Bool.{and_from, and_parts, le-leb, lt-ltb}
use Rattle.std.proofs.lemmas.Bool.Decides.{nat_tests}
use Rattle.std.proofs.lemmas.List.Concat.{flat_map-cons}
use Rattle.std.proofs.lemmas.List.Elements.{All-append, All-cons, All-filter, All-head, All-nil, All-tail}
use Rattle.std.proofs.lemmas.Str.{IsUtf8-encode, chars-encodes, encodes-chars}
use Rattle.ix_base.proofs.EscapeLemmas.{IsLow, ae_low, front-next, front-start, te_low}
use Rattle.ix_base.specs.Address.{is_link, joined_url, link_or, longest_link, resolved, url_of}
use Rattle.ix_base.specs.Escapes.{ae, ae_ref, escaped, te, te_ref, written_as}
use Rattle.ix_base.specs.LocatedElements.{Located}
use Rattle.ix_base.specs.Markup.{Manner, Kept, LeftOut, Opened, attribute_cmp, attribute_of, base_below, body, body_along, declaration, element_by, ends_short, is_link_of, is_silent, is_written, manner, markup_along, own_attributes, plain, plain_along, plain_by, put_words, value_by, written_name}
use Rattle.ix_base.specs.NcName.{are_allowed, is_allowed}
use Rattle.ix_base.specs.Sound.{AreSound, IsSoundAttribute, IsSoundHead}
use Rattle.ix_base.specs.Token.{is_token}
use Rattle.ix_base.specs.Trees.{Head, Named, Nodes, Valued, none, chars as chars_of, elem}
use Rattle.ix_base.specs.WrittenMarkup.{Attribute, Markup, attrs_text, close_text, leaf, leaf_text, node, nothing, start_text, verbatim, words, written}
use Rattle.url.specs.Parts.{Parts, serialize}
use Rattle.xbrl_parts.proofs.SmallTimes.{by_side}
use Rattle.facts.proofs.PlainLaws.{is_plain}
use Rattle.targets.proofs.AllowedLaws.{allowed-append, allowed-from, allowed-nil, allowed-to, ncname-allowed}
use Rattle.target_contents.proofs.AmongLaws.{all-sorted}
use Rattle.targets.proofs.AsciiLaws.{plain-allowed}
use Rattle.targets.proofs.SoundLaws.{IsSoundAt}

abbrev pub IsAllowed : List ℕ → Type 0
IsAllowed t = are_allowed t ≡ true

-- Characters, escaped.

allowed-scalar : (c : ℕ) → is_allowed c ≡ true → IsScalar c
unfolding is_allowed
allowed-scalar c h = elim (parted c h) as (λ x. IsScalar c) [
  | inl l ↦ rw (lt-ltb c 55296 l) refl
  | inr l ↦ by_low (ltb c 55296) (lt-ltb c 1114112 l.1) (le-leb 57344 c l.0)
] where
  parted : (c : ℕ) → is_allowed c ≡ true → (c < 55296) ⊎ ((57344 ≤ c) × (c < 1114112))
  parted c h = grind (arith, nat_tests)

  by_low : (b : Bool) → ltb c 1114112 ≡ true → leb 57344 c ≡ true → (if b then true else (leb 57344 c && ltb c 1114112)) ≡ true
  by_low true x y = refl
  by_low false x y = and_from (leb 57344 c) (ltb c 1114112) y x

allowed-char : (c : ℕ) → is_allowed c ≡ true → IsAllowed (encode_utf8 c)
allowed-char c h =
    let k = allowed-scalar c h in
    let e : chars (encode_utf8 c) ≡ c ∷ [] = ap chars (sym (append-nil (encode_utf8 c))) ∙ chars-encodes (c ∷ []) (ap (λ b. b && true) k) in
    allowed-from (encode_utf8 c) (IsUtf8-encode c k) (ap (list_all is_allowed) e ∙ ap (λ b. b && true) h)

-- a table whose references are printable ASCII
abbrev IsPlainTable : (ℕ → Option (List ℕ)) → Type 0
IsPlainTable table = (c : ℕ) (r : List ℕ) → table c ≡ Some r → list_all is_plain (38 ∷ r) ≡ true

ref-is : (x r : List ℕ) → list_all is_plain (38 ∷ x) ≡ true → Some x ≡ Some r → list_all is_plain (38 ∷ r) ≡ true
ref-is x r h e = let same : x ≡ r = cc in ap (λ y. list_all is_plain (38 ∷ y)) (sym same) ∙ h

te-plain : IsPlainTable te_ref
te-plain c r e =
    by_side (c == 38) (Some (codes "amp;")) _ r e (ref-is (codes "amp;") r refl)
    (λ f. by_side (c == 60) (Some (codes "lt;")) _ r f (ref-is (codes "lt;") r refl)
    (λ g. by_side (c == 62) (Some (codes "gt;")) _ r g (ref-is (codes "gt;") r refl)
    (λ h. by_side (c == 13) (Some (codes "#13;")) None r h (ref-is (codes "#13;") r refl) (λ k. absurd (cc)))))

ae-plain : IsPlainTable ae_ref
ae-plain c r e =
    by_side (c == 34) (Some (codes "quot;")) _ r e (ref-is (codes "quot;") r refl)
    (λ f. by_side (c == 9) (Some (codes "#9;")) _ r f (ref-is (codes "#9;") r refl)
    (λ g. by_side (c == 10) (Some (codes "#10;")) (te_ref c) r g (ref-is (codes "#10;") r refl) (te-plain c r)))

module _ (table : ℕ → Option (List ℕ)) (low : IsLow table) (refs : IsPlainTable table) where
  escaped-char : (c : ℕ) (rest : List ℕ) → escaped table (encode_utf8 c ++ rest) ≡ written_as c (option_map (λ r. 38 ∷ r) (table c)) ++ escaped table rest
  escaped-char c rest =
      let text = encode_utf8 c ++ rest in
      let here = written_as c (option_map (λ r. 38 ∷ r) (table c)) in
      let had = front-next table low [] [] here text text rest c (option_map (λ r. 38 ∷ r) (table c)) (front-start table [] text text refl) refl refl refl in
      sym had.all ∙ ap (λ x. x ++ escaped table rest) (sym had.is)

  char-written : (c : ℕ) (o : Option (List ℕ)) → is_allowed c ≡ true → table c ≡ o → IsAllowed (written_as c (option_map (λ r. 38 ∷ r) o))
  char-written c None h e = allowed-char c h
  char-written c (Some r) h e = plain-allowed (38 ∷ r) (refs c r e)

  chars-escaped : (cs : List ℕ) → list_all is_allowed cs ≡ true → IsAllowed (escaped table (encodes cs))
  chars-escaped [] h = allowed-nil
  chars-escaped (c ∷ cs) h =
      let z = and_parts (is_allowed c) (list_all is_allowed cs) h in
      ap are_allowed (escaped-char c (encodes cs))
      ∙ allowed-append (written_as c (option_map (λ r. 38 ∷ r) (table c))) (escaped table (encodes cs)) (char-written c (table c) z.0 refl) (chars-escaped cs z.1)

  escaped-allowed : (t : List ℕ) → IsAllowed t → IsAllowed (escaped table t)
  escaped-allowed t h =
      let z = allowed-to t h in
      ap (λ x. are_allowed (escaped table x)) (sym (encodes-chars t z.0)) ∙ chars-escaped (chars t) z.1

-- Markup.

abbrev IsAllowedAttribute : Attribute → Type 0
IsAllowedAttribute a = IsAllowed a.name × IsAllowed a.value

abbrev pub IsAllowedMarkup : Markup → Type 0
IsAllowedMarkup nothing = Unit {0}
IsAllowedMarkup (words text rest) = IsAllowed text × IsAllowedMarkup rest
IsAllowedMarkup (node name attrs kids rest) = IsAllowed name × All IsAllowedAttribute attrs × IsAllowedMarkup kids × IsAllowedMarkup rest
IsAllowedMarkup (leaf name attrs rest) = IsAllowed name × All IsAllowedAttribute attrs × IsAllowedMarkup rest
IsAllowedMarkup (verbatim bytes rest) = IsAllowed bytes × IsAllowedMarkup rest

put-plain : (c : ℕ) (t : List ℕ) → is_plain c ≡ true → IsAllowed t → IsAllowed (c ∷ t)
put-plain c t p h = allowed-append (c ∷ []) t (plain-allowed (c ∷ []) (and_from _ _ p refl)) h

attrs-allowed : (attrs : List Attribute) (end : List ℕ) → All IsAllowedAttribute attrs → IsAllowed end → IsAllowed (attrs_text attrs end)
attrs-allowed [] end all h = h
attrs-allowed (a ∷ more) end all h =
    let here = All-head IsAllowedAttribute a more all in
    let rest = attrs-allowed more end (All-tail IsAllowedAttribute a more all) h in
    let tail = put-plain 34 (attrs_text more end) refl rest in
    let value = allowed-append (ae a.value) (34 ∷ attrs_text more end) (escaped-allowed ae_ref ae_low ae-plain a.value here.1) tail in
    put-plain 32 _ refl (allowed-append a.name _ here.0 (put-plain 61 _ refl (put-plain 34 _ refl value)))

close-allowed : (name : List ℕ) → IsAllowed name → IsAllowed (close_text name)
close-allowed name h = put-plain 60 _ refl (put-plain 47 _ refl (allowed-append name (62 ∷ []) h (plain-allowed (62 ∷ []) refl)))

written-allowed : (m : Markup) → IsAllowedMarkup m → (more : List ℕ) → IsAllowed more → IsAllowed (written m more)
written-allowed nothing h more k = k
written-allowed (words text rest) h more k =
    allowed-append (te text) (written rest more) (escaped-allowed te_ref te_low te-plain text h.0) (written-allowed rest h.1 more k)
written-allowed (node name attrs kids rest) h more k =
    let start = put-plain 60 (name ++ attrs_text attrs (62 ∷ [])) refl (allowed-append name (attrs_text attrs (62 ∷ [])) h.0 (attrs-allowed attrs (62 ∷ []) h.1 (plain-allowed (62 ∷ []) refl))) in
    allowed-append (start_text name attrs) (written kids (close_text name ++ written rest more)) start
    (written-allowed kids h.2 (close_text name ++ written rest more)
    (allowed-append (close_text name) (written rest more) (close-allowed name h.0) (written-allowed rest h.3 more k)))
written-allowed (leaf name attrs rest) h more k =
    let end = codes "/>" in
    let start = put-plain 60 (name ++ attrs_text attrs end) refl (allowed-append name (attrs_text attrs end) h.0 (attrs-allowed attrs end h.1 (plain-allowed end refl))) in
    allowed-append (leaf_text name attrs) (written rest more) start (written-allowed rest h.2 more k)
written-allowed (verbatim bytes rest) h more k = allowed-append bytes (written rest more) h.0 (written-allowed rest h.1 more k)

-- Bodies.

words-allowed : (text : List ℕ) (m : Markup) → IsAllowed text → IsAllowedMarkup m → IsAllowedMarkup (put_words text m)
words-allowed [] m h k = k
words-allowed (c ∷ cs) nothing h k = (h, tt)
words-allowed (c ∷ cs) (words text rest) h k = (allowed-append (c ∷ cs) text h k.0, k.1)
words-allowed (c ∷ cs) (node name attrs kids rest) h k = (h, k)
words-allowed (c ∷ cs) (leaf name attrs rest) h k = (h, k)
words-allowed (c ∷ cs) (verbatim bytes rest) h k = (h, k)

link-allowed : (text : List ℕ) (o : Option Parts) → IsAllowed text → IsAllowed (link_or text o)
link-allowed text None h = h
link-allowed text (Some url) h = by (is_link (serialize url)) refl
  where
    by : (b : Bool) → is_link (serialize url) ≡ b → IsAllowed (cond b (serialize url) text)
    by true e =
        let outer = and_parts (not (length (serialize url) == 0)) (is_token (serialize url) && are_allowed (serialize url)) e in
        (and_parts (is_token (serialize url)) (are_allowed (serialize url)) outer.1).1
    by false e = h

resolved-allowed : (base text : List ℕ) → IsAllowed text → IsAllowed (resolved base text)
resolved-allowed base text h = by (nat_lt longest_link (length text) || is_some (url_of text))
  where
    by : (b : Bool) → IsAllowed (cond b text (link_or text (joined_url base text)))
    by true = h
    by false = link-allowed text (joined_url base text) h

value-allowed : (b : Bool) (base : Option (List ℕ)) (text : List ℕ) → IsAllowed text → IsAllowed (value_by b base text)
value-allowed true None text h = h
value-allowed true (Some base) text h = resolved-allowed base text h
value-allowed false base text h = h

name-written : (n : Named) → IsAllowed n.local → IsAllowed (written_name n)
name-written n h = by (length n.ns == 0)
  where
    by : (b : Bool) → IsAllowed (cond b n.local (codes "xml:" ++ n.local))
    by true = h
    by false = allowed-append (codes "xml:") n.local (plain-allowed (codes "xml:") refl) h

attribute-allowed : (base : Option (List ℕ)) (element : Named) (a : Valued) → IsSoundAttribute a → IsAllowedAttribute (attribute_of base element a)
attribute-allowed base element a h =
    (name-written a.name (ncname-allowed a.name.local h.name.local), value-allowed (is_link_of element a.name) base a.value h.allowed)

all-made : (base : Option (List ℕ)) (element : Named) (xs : List Valued) → All IsSoundAttribute xs → All IsAllowedAttribute (map (attribute_of base element) xs)
all-made base element [] h = All-nil IsAllowedAttribute
all-made base element (a ∷ xs) h =
    All-cons IsAllowedAttribute (attribute_of base element a) (map (attribute_of base element) xs)
    (attribute-allowed base element a (All-head IsSoundAttribute a xs h)) (all-made base element xs (All-tail IsSoundAttribute a xs h))

own-allowed : (base : Option (List ℕ)) (h : Head) → IsSoundHead h → All IsAllowedAttribute (own_attributes base h)
own-allowed base h sound =
    all-sorted IsAllowedAttribute attribute_cmp (map (attribute_of base h.name) (filter is_written h.attrs))
    (all-made base h.name (filter is_written h.attrs) (All-filter is_written IsSoundAttribute h.attrs sound.attributes))

declaration-allowed : (around ns : List ℕ) → IsAllowed ns → All IsAllowedAttribute (declaration around ns)
declaration-allowed around ns h = by (bytes_eq ns around)
  where
    by : (b : Bool) → All IsAllowedAttribute (cond b [] (record { name = codes "xmlns"; value = ns } ∷ []))
    by true = All-nil IsAllowedAttribute
    by false = All-cons IsAllowedAttribute (record { name = codes "xmlns"; value = ns }) [] (plain-allowed (codes "xmlns") refl, h) (All-nil IsAllowedAttribute)

element-allowed : (short : Bool) (name : List ℕ) (attrs : List Attribute) (kids rest : Markup) → IsAllowed name → All IsAllowedAttribute attrs
    → IsAllowedMarkup kids → IsAllowedMarkup rest → IsAllowedMarkup (element_by short name attrs kids rest)
element-allowed true name attrs kids rest n a k r = (n, a, r)
element-allowed false name attrs kids rest n a k r = (n, a, k, r)

body-allowed : (depth : ℕ) (nodes : Nodes) → AreSound depth nodes → (base : Option (List ℕ)) (around : List ℕ) (rest : Markup) → IsAllowedMarkup rest
    → IsAllowedMarkup (body base around nodes rest)
body-allowed depth none h base around rest k = k
body-allowed depth (chars_of text more) h base around rest k =
    words-allowed text (body base around more rest) h.1 (body-allowed depth more h.3 base around rest k)
body-allowed depth (elem head children more) h base around rest k =
    let later = body-allowed depth more h.4 base around rest k in
    elim (manner head.name) as (λ m. IsAllowedMarkup (elim m [
      | LeftOut ↦ body base around more rest
      | Opened ↦ body (base_below base head) around children (body base around more rest)
      | Kept ↦ element_by (ends_short head.name && is_silent children) head.name.local
          (declaration around head.name.ns ++ own_attributes (base_below base head) head)
          (body (base_below base head) head.name.ns children nothing) (body base around more rest)
    ])) [
      | LeftOut ↦ later
      | Opened ↦ body-allowed h.0 children h.3 (base_below base head) around (body base around more rest) later
      | Kept ↦ element-allowed (ends_short head.name && is_silent children) head.name.local
          (declaration around head.name.ns ++ own_attributes (base_below base head) head)
          (body (base_below base head) head.name.ns children nothing) (body base around more rest)
          (ncname-allowed head.name.local h.2.name.local)
          (All-append IsAllowedAttribute (declaration around head.name.ns) (own_attributes (base_below base head) head)
          (declaration-allowed around head.name.ns h.2.name.allowed) (own-allowed (base_below base head) head h.2))
          (body-allowed h.0 children h.3 (base_below base head) head.name.ns nothing tt) later
    ]

plain-by-allowed : (m : Manner) (inner : List ℕ) → IsAllowed inner → IsAllowed (plain_by m inner)
plain-by-allowed LeftOut inner h = allowed-nil
plain-by-allowed Opened inner h = h
plain-by-allowed Kept inner h = h

pub plain-text-allowed : (depth : ℕ) (nodes : Nodes) → AreSound depth nodes → IsAllowed (plain nodes)
plain-text-allowed depth none h = allowed-nil
plain-text-allowed depth (chars_of text rest) h = allowed-append text (plain rest) h.1 (plain-text-allowed depth rest h.3)
plain-text-allowed depth (elem head children rest) h =
    allowed-append (plain_by (manner head.name) (plain children)) (plain rest)
    (plain-by-allowed (manner head.name) (plain children) (plain-text-allowed h.0 children h.3)) (plain-text-allowed depth rest h.4)

-- Along chains.

abbrev IsSound : Located → Type 0
IsSound e = IsSoundAt e.placed.tree

pub along-allowed : (es : List Located) → All (λ e. IsSoundAt e.placed.tree) es → IsAllowed (plain_along es)
along-allowed [] h = allowed-nil
along-allowed (e ∷ es) h =
    let here = All-head IsSound e es h in
    ap are_allowed (flat_map-cons (λ (x : Located). plain x.placed.tree.children) e es)
    ∙ allowed-append (plain e.placed.tree.children) (plain_along es) (plain-text-allowed here.0 e.placed.tree.children here.2)
    (along-allowed es (All-tail IsSound e es h))

bodies-allowed : (bases : Located → Option (List ℕ)) (around : List ℕ) (es : List Located) → All (λ e. IsSoundAt e.placed.tree) es
    → IsAllowedMarkup (body_along bases around es)
bodies-allowed bases around [] h = tt
bodies-allowed bases around (e ∷ es) h =
    let here = All-head IsSound e es h in
    body-allowed here.0 e.placed.tree.children here.2 (bases e) around (body_along bases around es)
    (bodies-allowed bases around es (All-tail IsSound e es h))

pub marked-allowed : (bases : Located → Option (List ℕ)) (around : List ℕ) (es : List Located) → All (λ e. IsSoundAt e.placed.tree) es
    → IsAllowed (markup_along bases around es)
marked-allowed bases around es h = written-allowed (body_along bases around es) (bodies-allowed bases around es h) [] allowed-nil
