-- What stands in a tag: its form, and how it is read.
use Rattle.std.proofs.Common.{◌≡◌, ◌≢◌, ℕ, suc, zero, ◌+◌, ◌<◌, ◌==◌, nat_lt, Bool, true, false, ◌&&◌, ◌||◌, not, if◌then◌else◌, ◌⊎◌, inl, inr, List, [], ◌∷◌, ◌++◌, length, drop, Option, Some, None, refl, sym, ap, ◌∙◌, arith, subst, append_assoc, append-nil, length-append, bytes_eq, codes}
use Rattle.std.specs.List.{list_all, list_any}
use Rattle.std.proofs.lemmas.Bool.{lt-ltb, ltb-true, and_parts, or_cases, not-true, not-false}
use Rattle.ix_base.specs.NcName.{is_white}
use Rattle.ix_base.specs.Scope.{is_qname}
use Rattle.page_constructs.specs.Constructs.{starts}
use Rattle.page_constructs.specs.Forms.{AreWhite, has, is_quote, IsEqual, IsAttribute, AreAttributes, IsInTag}
use Rattle.page_constructs.specs.Meanings.{given, ◌>>=◌, before, from, is_dark, behind_white, is_white_text, behind_front, quoted, equalled, ends_name, ends_tag_name, attribute_at, slash, attributes_in, tag, start_tag}
use Rattle.page_constructs.specs.Tokens.{Attribute, Tag, Token}
use Rattle.page_constructs.specs.Values.{value_of}
use Rattle.page_constructs.proofs.SpanLaws.{clash, is_same, one_number, or_left, or_right, either, NoneStops, Stops, before-span, from-span, before-from, before-none, none-all, all-none, bind-some, given-some, starts-front, bytes-one, bytes-apart}
use Rattle.page_constructs.proofs.NameBytes.{is_name_byte, is_qname_byte, qname-bytes, qname-some, name-not-white, name-not}

pub any-none : (f : ℕ → Bool) (t : List ℕ) → list_any f t ≡ false → NoneStops f t
any-none f [] h = tt
any-none f (c ∷ t) h = (or_left (f c) (list_any f t) h, any-none f t (or_right (f c) (list_any f t) h))

pub none-any : (f : ℕ → Bool) (t : List ℕ) → NoneStops f t → list_any f t ≡ false
none-any f [] h = refl
none-any f (c ∷ t) h = rw (h.0) (none-any f t h.1)

pub white-dark : (t : List ℕ) → list_all is_white t ≡ true → NoneStops is_dark t
white-dark t h = none-all is_dark is_white (λ c w. rw w refl) t h

pub dark-white : (t : List ℕ) → NoneStops is_dark t → list_all is_white t ≡ true
dark-white t h = all-none is_dark is_white (λ c w. not-false (is_white c) w) t h

quote-dark : (q : ℕ) → is_quote q ≡ true → is_dark q ≡ true
quote-dark q h = ends (or_cases (q == 34) (q == 39) h) where
  ends : ((q == 34) ≡ true) ⊎ ((q == 39) ≡ true) → is_dark q ≡ true
  ends (inl e) = subst (λ x. is_dark x ≡ true) (sym (one_number q 34 e)) refl
  ends (inr e) = subst (λ x. is_dark x ≡ true) (sym (one_number q 39 e)) refl

has-append : (q : ℕ) (t u : List ℕ) → has q (t ++ q ∷ u) ≡ true
has-append q [] u = rw (is_same q) refl
has-append q (c ∷ t) u = elim (c == q) as (λ b. (b || has q (t ++ q ∷ u)) ≡ true) [ true ↦ refl | false ↦ has-append q t u ]

-- a quoted value at the front
quoted-in : (q : ℕ) (raw more : List ℕ) → is_quote q ≡ true → has q raw ≡ false → quoted (q ∷ (raw ++ q ∷ more)) ≡ Some (raw, more)
quoted-in q raw more k u =
    let none = any-none (λ c. c == q) raw u in
    rw (k, has-append q raw more, before-span (λ c. c == q) raw (q ∷ more) none (is_same q), from-span (λ c. c == q) raw (q ∷ more) none (is_same q)) refl

pub equal-in : (raw more text : List ℕ) → IsEqual raw more text → equalled text ≡ Some (raw, more)
equal-in raw more text e =
    let inner = e.quote ∷ (raw ++ e.quote ∷ more) in
    let front = from-span is_dark e.front (61 ∷ (e.back ++ inner)) (white-dark e.front e.front_white) refl in
    let back = from-span is_dark e.back inner (white-dark e.back e.back_white) (quote-dark e.quote e.quotes) in
    rw (e.splits, front, back) (quoted-in e.quote raw more e.quotes e.unquoted)

pub equal-longer : (raw more text tail : List ℕ) → IsEqual raw more text → IsEqual raw (more ++ tail) (text ++ tail)
equal-longer raw more text tail e = record {
  front = e.front;
  back = e.back;
  quote = e.quote;
  splits = ap (λ x. x ++ tail) e.splits ∙ append_assoc e.front (61 ∷ (e.back ++ e.quote ∷ (raw ++ e.quote ∷ more))) tail
      ∙ ap (λ x. e.front ++ 61 ∷ x) (append_assoc e.back (e.quote ∷ (raw ++ e.quote ∷ more)) tail)
      ∙ ap (λ x. e.front ++ 61 ∷ (e.back ++ e.quote ∷ x)) (append_assoc raw (e.quote ∷ more) tail);
  front_white = e.front_white;
  back_white = e.back_white;
  quotes = e.quotes;
  unquoted = e.unquoted;
}

-- what ends behind a quoted value
pub shorten : (raw more tail text : List ℕ) → IsEqual raw (more ++ tail) text → (front : List ℕ) × (text ≡ front ++ tail) × IsEqual raw more front
shorten raw more tail text e = (
  e.front ++ 61 ∷ (e.back ++ e.quote ∷ (raw ++ e.quote ∷ more)),
  e.splits
      ∙ ap (λ x. e.front ++ 61 ∷ (e.back ++ e.quote ∷ x)) (sym (append_assoc raw (e.quote ∷ more) tail))
      ∙ ap (λ x. e.front ++ 61 ∷ x) (sym (append_assoc e.back (e.quote ∷ (raw ++ e.quote ∷ more)) tail))
      ∙ sym (append_assoc e.front (61 ∷ (e.back ++ e.quote ∷ (raw ++ e.quote ∷ more))) tail),
  record {
    front = e.front;
    back = e.back;
    quote = e.quote;
    splits = refl;
    front_white = e.front_white;
    back_white = e.back_white;
    quotes = e.quotes;
    unquoted = e.unquoted;
  },
)

-- what a quoted value was read from
record IsQuoted (raw more text : List ℕ) : Type 0 where
  quote : ℕ
  splits : text ≡ quote ∷ (raw ++ quote ∷ more)
  quotes : is_quote quote ≡ true
  unquoted : has quote raw ≡ false

has-from : (q : ℕ) (t : List ℕ) → has q t ≡ true → from (λ c. c == q) t ≡ q ∷ drop 1 (from (λ c. c == q) t)
has-from q [] h = absurd (cc)
has-from q (c ∷ t) h = elim (either (c == q)) as (λ x. from (λ c. c == q) (c ∷ t) ≡ q ∷ drop 1 (from (λ c. c == q) (c ∷ t))) [
  | inl y ↦ rw y (ap (λ x. x ∷ t) (one_number c q y))
  | inr n ↦ rw n (has-from q t (rw n at h))
]

quoted-out : (text : List ℕ) (p : List ℕ × List ℕ) → quoted text ≡ Some p → IsQuoted p.0 p.1 text
quoted-out [] p e = absurd (cc)
quoted-out (q ∷ text) p e = found (is_quote q && has q text) refl e where
  found : (b : Bool) → (is_quote q && has q text) ≡ b → (if b then Some (before (λ c. c == q) text, drop 1 (from (λ c. c == q) text)) else None) ≡ Some p → IsQuoted p.0 p.1 (q ∷ text)
  found false t s = absurd (cc)
  found true t s =
      let k = and_parts (is_quote q) (has q text) t in
      let same : (before (λ c. c == q) text, drop 1 (from (λ c. c == q) text)) ≡ p = cc in
      subst (λ x. IsQuoted x.0 x.1 (q ∷ text)) same (record {
        quote = q;
        splits = ap (λ x. q ∷ x) (before-from (λ c. c == q) text ∙ ap (λ x. before (λ c. c == q) text ++ x) (has-from q text k.1));
        quotes = k.0;
        unquoted = none-any (λ c. c == q) (before (λ c. c == q) text) (before-none (λ c. c == q) text);
      })

behind-out : (front text rest : List ℕ) → behind_front front text ≡ Some rest → text ≡ front ++ rest
behind-out front text rest e = found (starts front text) refl e where
  found : (b : Bool) → starts front text ≡ b → (if b then Some (drop (length front) text) else None) ≡ Some rest → text ≡ front ++ rest
  found false t s = absurd (cc)
  found true t s = let same : drop (length front) text ≡ rest = cc in starts-front front text t ∙ ap (λ x. front ++ x) same

pub behind-is : (front text rest : List ℕ) → behind_front front text ≡ Some rest → text ≡ front ++ rest
behind-is front text rest e = behind-out front text rest e

pub equal-out : (text : List ℕ) (p : List ℕ × List ℕ) → equalled text ≡ Some p → IsEqual p.0 p.1 text
equal-out text p e =
    let a = bind-some (behind_front (codes "=") (behind_white text)) _ p e in
    let b = quoted-out (behind_white a.0) p a.2 in
    let sign = behind-out (codes "=") (behind_white text) a.0 a.1 in
    record {
      front = before is_dark text;
      back = before is_dark a.0;
      quote = b.quote;
      splits = before-from is_dark text ∙ ap (λ x. before is_dark text ++ x) (sign ∙ ap (λ x. 61 ∷ x) (before-from is_dark a.0 ∙ ap (λ x. before is_dark a.0 ++ x) b.splits));
      front_white = dark-white (before is_dark text) (before-none is_dark text);
      back_white = dark-white (before is_dark a.0) (before-none is_dark a.0);
      quotes = b.quotes;
      unquoted = b.unquoted;
    }

-- a name's bytes don't end it
pub name-none : (name : List ℕ) → is_qname name ≡ true → NoneStops ends_name name
unfolding is_name_byte Rattle.ix_base.specs.NcName.is_name_char Rattle.ix_base.specs.NcName.is_name_start
name-none name h = none-all ends_name is_qname_byte (λ c k. rw (name-not-white c k, name-not 61 c refl k) refl) name (qname-bytes name h)

pub tag-name-none : (name : List ℕ) → is_qname name ≡ true → NoneStops ends_tag_name name
unfolding is_name_byte Rattle.ix_base.specs.NcName.is_name_char Rattle.ix_base.specs.NcName.is_name_start
tag-name-none name h = none-all ends_tag_name is_qname_byte (λ c k. rw (name-not-white c k, name-not 47 c refl k) refl) name (qname-bytes name h)

-- a name begins with a byte that is no white space and no `/`
pub record Heads (name : List ℕ) : Type 0 where
  pub first : ℕ
  pub rest : List ℕ
  pub splits : name ≡ first ∷ rest
  pub dark : is_white first ≡ false
  pub plain : (first == 47) ≡ false

pub name-heads : (name : List ℕ) → is_qname name ≡ true → Heads name
unfolding is_name_byte Rattle.ix_base.specs.NcName.is_name_char Rattle.ix_base.specs.NcName.is_name_start
name-heads [] h = absurd (qname-some [] h refl)
name-heads (c ∷ name) h =
    let k = and_parts (is_qname_byte c) (list_all is_qname_byte name) (qname-bytes (c ∷ name) h) in
    record { first = c; rest = name; splits = refl; dark = name-not-white c k.0; plain = name-not 47 c refl k.0 }

equal-stops : (raw more text : List ℕ) → IsEqual raw more text → Stops ends_name text
equal-stops raw more text e = subst (Stops ends_name) (sym e.splits) (front e.front e.front_white) where
  front : (p : List ℕ) → list_all is_white p ≡ true → Stops ends_name (p ++ 61 ∷ (e.back ++ e.quote ∷ (raw ++ e.quote ∷ more)))
  front [] h = refl
  front (c ∷ p) h = rw (and_parts (is_white c) (list_all is_white p) h).0 refl

not-white-text : (p x : List ℕ) (c : ℕ) → is_white c ≡ false → list_all is_white (p ++ c ∷ x) ≡ false
not-white-text [] x c h = rw h refl
not-white-text (d ∷ p) x c h = elim (is_white d) as (λ b. (b && list_all is_white (p ++ c ∷ x)) ≡ false) [ true ↦ not-white-text p x c h | false ↦ refl ]

pub attribute-in : (a : Attribute) (raw more behind_ : List ℕ) → is_qname a.name ≡ true → IsEqual raw more behind_ → has 60 raw ≡ false → a.value ≡ value_of raw
    → attribute_at (a.name ++ behind_) ≡ Some (a, more)
attribute-in a raw more behind_ n e c v =
    let none = name-none a.name n in
    let stops = equal-stops raw more behind_ e in
    rw (before-span ends_name a.name behind_ none stops, from-span ends_name a.name behind_ none stops, n, equal-in raw more behind_ e, c) (ap (λ x. Some (record { name = a.name; value = x }, more)) (sym v))

-- the end of a tag: nothing, or a `/`
abbrev pub end_of : Bool → List ℕ
end_of false = []
end_of true = slash

white-append : (t : List ℕ) → list_all is_white t ≡ true → list_all is_white (t ++ []) ≡ true
white-append t h = subst (λ x. list_all is_white x ≡ true) (sym (append-nil t)) h

attributes-none : (n : ℕ) (text : List ℕ) (s : Bool) → AreWhite text → attributes_in (suc n) (text ++ end_of s) ≡ Some ([], s)
unfolding attributes_in
attributes-none n text false h = rw (white-append text h) refl
attributes-none n text true h =
    rw (not-white-text text [] 47 refl, from-span is_dark text slash (white-dark text h) refl) refl

some-length : (t : List ℕ) → t ≢ [] → 0 < length t
some-length [] h = absurd (h refl)
some-length (c ∷ t) h = omega arith

abbrev Rest : Attribute → List Attribute → List ℕ → Type 0
Rest a more text = IsAttribute a (AreAttributes more) text

module _ (n : ℕ) (a : Attribute) (more : List Attribute) (text : List ℕ) (s : Bool) (h : IsAttribute a (AreAttributes more) text) where
  tail : List ℕ
  tail = h.behind ++ end_of s

  whole : text ++ end_of s ≡ h.white ++ (a.name ++ (h.behind ++ end_of s))
  whole = ap (λ x. x ++ end_of s) h.splits ∙ append_assoc h.white (a.name ++ h.behind) (end_of s) ∙ ap (λ x. h.white ++ x) (append_assoc a.name h.behind (end_of s))

  heads : a.name ++ (h.behind ++ end_of s) ≡ (name-heads a.name h.name).first ∷ ((name-heads a.name h.name).rest ++ (h.behind ++ end_of s))
  heads = ap (λ x. x ++ (h.behind ++ end_of s)) (name-heads a.name h.name).splits

  dark-text : is_white_text (text ++ end_of s) ≡ false
  dark-text = ap (list_all is_white) (whole ∙ ap (λ x. h.white ++ x) heads) ∙ not-white-text h.white _ _ (name-heads a.name h.name).dark

  behind-is-name : behind_white (text ++ end_of s) ≡ a.name ++ (h.behind ++ end_of s)
  behind-is-name = ap (from is_dark) whole ∙ from-span is_dark h.white (a.name ++ (h.behind ++ end_of s)) (white-dark h.white h.are_white) (subst (Stops is_dark) (sym heads) (ap not (name-heads a.name h.name).dark))

  no-slash : bytes_eq (a.name ++ (h.behind ++ end_of s)) slash ≡ false
  no-slash = bytes-apart _ slash (λ e. let q : (name-heads a.name h.name).first ∷ ((name-heads a.name h.name).rest ++ (h.behind ++ end_of s)) ≡ 47 ∷ [] = sym heads ∙ e in
      let c : (name-heads a.name h.name).first ≡ 47 = cc in clash ((name-heads a.name h.name).first == 47) (rw c (is_same 47)) (name-heads a.name h.name).plain)

  apart : nat_lt (length (a.name ++ (h.behind ++ end_of s))) (length (text ++ end_of s)) ≡ true
  apart = lt-ltb _ _ (let w = some-length h.white h.apart in let e = ap length whole in let l = length-append h.white (a.name ++ (h.behind ++ end_of s)) in omega arith)

  first-one : attribute_at (a.name ++ (h.behind ++ end_of s)) ≡ Some (a, h.more ++ end_of s)
  first-one = attribute-in a h.raw (h.more ++ end_of s) (h.behind ++ end_of s) h.name (equal-longer h.raw h.more h.behind (end_of s) h.equal) h.closed h.value

  shorter : length (h.more ++ end_of s) < length (text ++ end_of s)
  unfolding equal-longer
  shorter =
      let e : length (text ++ end_of s) ≡ length (h.white ++ (a.name ++ (h.behind ++ end_of s))) = ap length whole in
      let m = h.more ++ end_of s in
      let b : length (h.behind ++ end_of s) ≡ length (h.equal.front ++ 61 ∷ (h.equal.back ++ h.equal.quote ∷ (h.raw ++ h.equal.quote ∷ (h.more ++ end_of s)))) = ap length (equal-longer h.raw h.more h.behind (end_of s) h.equal).splits in
      omega (
        arith,
        length-append h.white (a.name ++ (h.behind ++ end_of s)),
        length-append a.name (h.behind ++ end_of s),
        length-append h.equal.front (61 ∷ (h.equal.back ++ h.equal.quote ∷ (h.raw ++ h.equal.quote ∷ m))),
        length-append h.equal.back (h.equal.quote ∷ (h.raw ++ h.equal.quote ∷ m)),
        length-append h.raw (h.equal.quote ∷ m),
      )

  attributes-more : attributes_in n (h.more ++ end_of s) ≡ Some (more, s) → attributes_in (suc n) (text ++ end_of s) ≡ Some (a ∷ more, s)
  unfolding attributes_in
  attributes-more ih = rw (dark-text, behind-is-name, no-slash, apart, first-one, ih) refl

pub attributes-in : (n : ℕ) (as' : List Attribute) (text : List ℕ) (s : Bool) → AreAttributes as' text → length (text ++ end_of s) < n
    → attributes_in n (text ++ end_of s) ≡ Some (as', s)
attributes-in zero as' text s h l = absurd (omega arith)
attributes-in (suc n) [] text s h l = attributes-none n text s h
attributes-in (suc n) (a ∷ more) text s h l =
    attributes-more n a more text s h (attributes-in n more h.more s h.rest (let k = shorter n a more text s h in omega arith))

pub some-same : {A : Type 0} (x y : A) → Some x ≡ Some y → x ≡ y
some-same x y e = cc

-- what attributes were read from
pub record WereRead (as' : List Attribute) (s : Bool) (text : List ℕ) : Type 0 where
  pub front : List ℕ
  pub splits : text ≡ front ++ end_of s
  pub attributes : AreAttributes as' front

attribute-out : (text : List ℕ) (a : Attribute) (more : List ℕ) → attribute_at text ≡ Some (a, more)
    → (raw : List ℕ) × (behind_ : List ℕ) × (text ≡ a.name ++ behind_) × (is_qname a.name ≡ true) × IsEqual raw more behind_ × (has 60 raw ≡ false) × (a.value ≡ value_of raw)
attribute-out text a more e =
    let n = given-some (is_qname (before ends_name text)) _ (a, more) e in
    let v = bind-some (equalled (from ends_name text)) _ (a, more) n.1 in
    let c = given-some (not (has 60 v.0.0)) _ (a, more) v.2 in
    let pair = some-same (record { name = before ends_name text; value = value_of v.0.0 }, v.0.1) (a, more) c.1 in
    let same : record { name = before ends_name text; value = value_of v.0.0 } ≡ a = ap (λ p. p.0) pair in
    let rest : v.0.1 ≡ more = ap (λ p. p.1) pair in
    let name : before ends_name text ≡ a.name = ap (λ x. x.name) same in (
      v.0.0,
      from ends_name text,
      before-from ends_name text ∙ ap (λ x. x ++ from ends_name text) name,
      subst (λ x. is_qname x ≡ true) name n.0,
      subst (λ x. IsEqual v.0.0 x (from ends_name text)) rest (equal-out (from ends_name text) v.0 v.1),
      not-true (has 60 v.0.0) c.0,
      sym (ap (λ x. x.value) same),
    )

pub white-some : (text : List ℕ) → nat_lt (length (behind_white text)) (length text) ≡ true → before is_dark text ≢ []
white-some text h e =
    let a = ltb-true (length (behind_white text)) (length text) h in
    let b = ap length (before-from is_dark text ∙ ap (λ x. x ++ from is_dark text) e) in omega arith

abbrev Branch : ℕ → List ℕ → Option (List Attribute × Bool)
Branch n text = do
  apart_ ← given (nat_lt (length (behind_white text)) (length text))
  first ← attribute_at (behind_white text)
  more ← attributes_in n first.1
  Some (first.0 ∷ more.0, more.1)

by_branch : (n : ℕ) (text : List ℕ) (as' : List Attribute) (s : Bool) → ((t : List ℕ) (bs : List Attribute) (z : Bool) → attributes_in n t ≡ Some (bs, z) → WereRead bs z t)
    → Branch n text ≡ Some (as', s) → WereRead as' s text
by_branch n text as' s ih q =
    let a = given-some (nat_lt (length (behind_white text)) (length text)) _ (as', s) q in
    let f = bind-some (attribute_at (behind_white text)) _ (as', s) a.1 in
    let m = bind-some (attributes_in n f.0.1) _ (as', s) f.2 in
    let one = attribute-out (behind_white text) f.0.0 f.0.1 f.1 in
    let rest = ih f.0.1 m.0.0 m.0.1 m.1 in
    let pair = some-same (f.0.0 ∷ m.0.0, m.0.1) (as', s) m.2 in
    let equal : IsEqual one.0 (rest.front ++ end_of m.0.1) one.1 = subst (λ x. IsEqual one.0 x one.1) rest.splits one.4 in
    let split = shorten one.0 rest.front (end_of m.0.1) one.1 equal in
    subst (λ p. WereRead p.0 p.1 text) pair (record {
      front = before is_dark text ++ (f.0.0.name ++ split.0);
      splits = before-from is_dark text
          ∙ ap (λ x. before is_dark text ++ x) (one.2 ∙ ap (λ x. f.0.0.name ++ x) split.1 ∙ sym (append_assoc f.0.0.name split.0 (end_of m.0.1)))
          ∙ sym (append_assoc (before is_dark text) (f.0.0.name ++ split.0) (end_of m.0.1));
      attributes = record {
        white = before is_dark text;
        behind = split.0;
        raw = one.0;
        more = rest.front;
        splits = refl;
        apart = white-some text a.0;
        are_white = dark-white (before is_dark text) (before-none is_dark text);
        name = one.3;
        equal = split.2;
        closed = one.5;
        value = one.6;
        rest = rest.attributes;
      };
    })

pub attributes-out : (n : ℕ) (text : List ℕ) (as' : List Attribute) (s : Bool) → attributes_in n text ≡ Some (as', s) → WereRead as' s text
unfolding attributes_in
attributes-out zero text as' s e = absurd (cc)
attributes-out (suc n) text as' s e = by_white (λ q. by_branch n text as' s (attributes-out n) q) (is_white_text text) refl e where
  by_slash : (Branch n text ≡ Some (as', s) → WereRead as' s text) → (b : Bool) → bytes_eq (behind_white text) slash ≡ b → (if b then Some ([], true) else Branch n text) ≡ Some (as', s) → WereRead as' s text
  by_slash k true t q =
      subst (λ p. WereRead p.0 p.1 text) (some-same ([], true) (as', s) q) (record {
        front = before is_dark text;
        splits = before-from is_dark text ∙ ap (λ x. before is_dark text ++ x) (bytes-one (behind_white text) slash t);
        attributes = dark-white (before is_dark text) (before-none is_dark text);
      })
  by_slash k false t q = k q

  by_white : (Branch n text ≡ Some (as', s) → WereRead as' s text) → (b : Bool) → is_white_text text ≡ b → (if b then Some ([], false) else (if bytes_eq (behind_white text) slash then Some ([], true) else Branch n text)) ≡ Some (as', s) → WereRead as' s text
  by_white k true t q =
      subst (λ p. WereRead p.0 p.1 text) (some-same ([], false) (as', s) q) (record { front = text; splits = sym (append-nil text); attributes = t })
  by_white k false t q = by_slash k (bytes_eq (behind_white text) slash) refl q

-- what a tag holds before its end
pub tag-in : (at : ℕ) (t : Tag) (inner : List ℕ) (s : Bool) → IsInTag t inner → t.offset ≡ at → start_tag at (inner ++ end_of s) ≡ Some (tag s t)
tag-in at t inner s i o =
    let whole = ap (λ x. x ++ end_of s) i.splits ∙ append_assoc t.name i.rest (end_of s) in
    let none = tag-name-none t.name i.name in
    let stops = tag-stops t.attrs i.rest s i.attributes in
    let front = ap (before ends_tag_name) whole ∙ before-span ends_tag_name t.name (i.rest ++ end_of s) none stops in
    let back = ap (from ends_tag_name) whole ∙ from-span ends_tag_name t.name (i.rest ++ end_of s) none stops in
    let l : length (inner ++ end_of s) ≡ length (t.name ++ (i.rest ++ end_of s)) = ap length whole in
    let read = attributes-in (length (inner ++ end_of s) + 1) t.attrs i.rest s i.attributes (omega (arith, length-append t.name (i.rest ++ end_of s))) in
    rw (front, back, i.name, read) (ap (λ x. Some (tag s (record { offset = x; name = t.name; attrs = t.attrs }))) (sym o))
  where
    white-stops : (p x : List ℕ) → p ≢ [] → list_all is_white p ≡ true → Stops ends_tag_name (p ++ x)
    white-stops [] x a h = absurd (a refl)
    white-stops (c ∷ p) x a h = rw (and_parts (is_white c) (list_all is_white p) h).0 refl

    end-stops : (p : List ℕ) (z : Bool) → list_all is_white p ≡ true → Stops ends_tag_name (p ++ end_of z)
    end-stops [] false h = tt
    end-stops [] true h = refl
    end-stops (c ∷ p) z h = rw (and_parts (is_white c) (list_all is_white p) h).0 refl

    tag-stops : (as' : List Attribute) (rest : List ℕ) (z : Bool) → AreAttributes as' rest → Stops ends_tag_name (rest ++ end_of z)
    tag-stops [] rest z h = end-stops rest z h
    tag-stops (a ∷ more) rest z h = subst (Stops ends_tag_name) (sym (ap (λ x. x ++ end_of z) h.splits ∙ append_assoc h.white (a.name ++ h.behind) (end_of z))) (white-stops h.white ((a.name ++ h.behind) ++ end_of z) h.apart h.are_white)

-- what a tag was read from
pub record TagRead (at : ℕ) (s : Bool) (t : Tag) (inner : List ℕ) : Type 0 where
  pub front : List ℕ
  pub splits : inner ≡ front ++ end_of s
  pub holds : IsInTag t front
  pub offset : t.offset ≡ at

pub tag-out : (at : ℕ) (inner : List ℕ) (token : Token) → start_tag at inner ≡ Some token → (s : Bool) × (t : Tag) × (token ≡ tag s t) × TagRead at s t inner
tag-out at inner token e =
    let n = given-some (is_qname (before ends_tag_name inner)) _ token e in
    let a = bind-some (attributes_in (length inner + 1) (from ends_tag_name inner)) _ token n.1 in
    let w = attributes-out (length inner + 1) (from ends_tag_name inner) a.0.0 a.0.1 a.1 in
    let t : Tag = record { offset = at; name = before ends_tag_name inner; attrs = a.0.0 } in (
      a.0.1,
      t,
      sym (some-same (tag a.0.1 t) token a.2),
      record {
        front = before ends_tag_name inner ++ w.front;
        splits = before-from ends_tag_name inner ∙ ap (λ x. before ends_tag_name inner ++ x) w.splits ∙ sym (append_assoc (before ends_tag_name inner) w.front (end_of a.0.1));
        holds = record { rest = w.front; splits = refl; name = n.0; attributes = w.attributes };
        offset = refl;
      },
    )
