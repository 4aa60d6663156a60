-- Which bytes a name has.
use Rattle.std.proofs.Common.{◌≡◌, ◌≢◌, ℕ, suc, ◌+◌, ◌/◌, ◌%◌, ◌≤◌, ◌==◌, nat_lt, nat_le, Bool, true, false, ◌&&◌, ◌||◌, if◌then◌else◌, cond, inl, inr, List, [], ◌∷◌, ◌++◌, take, drop, refl, sym, ap, ◌∙◌, arith, subst}
use lib.Utf8.{encode, encodes}
use Rattle.std.specs.List.{list_all, list_any, before_first, after_first, position_or_len}
use Rattle.std.specs.Str.{chars, is_utf8}
use Rattle.std.proofs.lemmas.Bool.{le-leb, and_parts}
use Rattle.std.proofs.lemmas.Str.{IsUtf8-from_is_utf8, encodes-chars}
use Rattle.ix_base.specs.NcName.{is_white, is_name_start, is_name_char, is_name_of, is_ncname}
use Rattle.ix_base.specs.Scope.{is_colon, has_prefix, prefix_of, local_of, is_qname}
use Rattle.page_constructs.proofs.AllowedText.{all-append}
use Rattle.page_constructs.proofs.SpanLaws.{not_this, and_both, either, same_or}

-- a byte of a name without a colon: of a character from U+0080 on, or a character of a name
unfoldable pub is_name_byte : ℕ → Bool
is_name_byte b = nat_le 128 b || is_name_char b

high : (b : ℕ) → 128 ≤ b → is_name_byte b ≡ true
unfolding is_name_byte
high b h = rw (le-leb 128 b h) refl

low : (b : ℕ) → is_name_char b ≡ true → is_name_byte b ≡ true
unfolding is_name_byte
low b h = elim (nat_le 128 b) as (λ x. (x || is_name_char b) ≡ true) [ true ↦ refl | false ↦ h ]

encode-bytes : (c : ℕ) → is_name_char c ≡ true → list_all is_name_byte (encode c) ≡ true
unfolding encode
encode-bytes c h =
    elim (nat_lt c 128) as (λ x. list_all is_name_byte (cond x (c ∷ []) (cond (nat_lt c 2048) ((192 + c / 64) ∷ (128 + c % 64) ∷ []) (cond (nat_lt c 65536) ((224 + c / 4096) ∷ (128 + (c / 64) % 64) ∷ (128 + c % 64) ∷ []) ((240 + c / 262144) ∷ (128 + (c / 4096) % 64) ∷ (128 + (c / 64) % 64) ∷ (128 + c % 64) ∷ [])))) ≡ true) [
      | true ↦ rw (low c h) refl
      | false ↦ elim (nat_lt c 2048) as (λ x. list_all is_name_byte (cond x ((192 + c / 64) ∷ (128 + c % 64) ∷ []) (cond (nat_lt c 65536) ((224 + c / 4096) ∷ (128 + (c / 64) % 64) ∷ (128 + c % 64) ∷ []) ((240 + c / 262144) ∷ (128 + (c / 4096) % 64) ∷ (128 + (c / 64) % 64) ∷ (128 + c % 64) ∷ []))) ≡ true) [
        | true ↦ rw (high (192 + c / 64) (omega arith), high (128 + c % 64) (omega arith)) refl
        | false ↦ elim (nat_lt c 65536) as (λ x. list_all is_name_byte (cond x ((224 + c / 4096) ∷ (128 + (c / 64) % 64) ∷ (128 + c % 64) ∷ []) ((240 + c / 262144) ∷ (128 + (c / 4096) % 64) ∷ (128 + (c / 64) % 64) ∷ (128 + c % 64) ∷ [])) ≡ true) [
          | true ↦ rw (high (224 + c / 4096) (omega arith), high (128 + (c / 64) % 64) (omega arith), high (128 + c % 64) (omega arith)) refl
          | false ↦ rw (high (240 + c / 262144) (omega arith), high (128 + (c / 4096) % 64) (omega arith), high (128 + (c / 64) % 64) (omega arith), high (128 + c % 64) (omega arith)) refl
        ]
      ]
    ]

encodes-bytes : (cs : List ℕ) → list_all is_name_char cs ≡ true → list_all is_name_byte (encodes cs) ≡ true
encodes-bytes [] h = refl
encodes-bytes (c ∷ cs) h =
    let p = and_parts (is_name_char c) (list_all is_name_char cs) h in
    all-append is_name_byte (encode c) (encodes cs) (encode-bytes c p.0) (encodes-bytes cs p.1)

start-char : (c : ℕ) → is_name_start c ≡ true → is_name_char c ≡ true
unfolding is_name_char
start-char c h = rw h refl

pub name-chars : (cs : List ℕ) → is_name_of cs ≡ true → list_all is_name_char cs ≡ true
name-chars [] h = absurd (cc)
name-chars (c ∷ cs) h =
    let p = and_parts (is_name_start c) (list_all is_name_char cs) h in
    and_both (is_name_char c) (list_all is_name_char cs) (start-char c p.0) p.1

pub ncname-bytes : (t : List ℕ) → is_ncname t ≡ true → list_all is_name_byte t ≡ true
unfolding is_ncname
ncname-bytes t h =
    let p = and_parts (is_utf8 t) (is_name_of (chars t)) h in
    subst (λ x. list_all is_name_byte x ≡ true) (encodes-chars t (IsUtf8-from_is_utf8 t p.0)) (encodes-bytes (chars t) (name-chars (chars t) p.1))

pub ncname-some : (t : List ℕ) → is_ncname t ≡ true → t ≢ []
unfolding is_ncname chars
ncname-some t h e =
    let p = and_parts (is_utf8 t) (is_name_of (chars t)) h in
    let q : is_name_of (chars []) ≡ true = subst (λ x. is_name_of (chars x) ≡ true) e p.1 in cc

-- a byte of a qualified name
abbrev pub is_qname_byte : ℕ → Bool
is_qname_byte b = is_name_byte b || b == 58

widen : (t : List ℕ) → list_all is_name_byte t ≡ true → list_all is_qname_byte t ≡ true
widen [] h = refl
widen (b ∷ t) h =
    let p = and_parts (is_name_byte b) (list_all is_name_byte t) h in
    and_both (is_qname_byte b) (list_all is_qname_byte t) (rw p.0 refl) (widen t p.1)

split-first : (t : List ℕ) → list_any is_colon t ≡ true → t ≡ before_first is_colon t ++ 58 ∷ after_first is_colon t
split-first [] h = absurd (cc)
split-first (c ∷ t) h = elim (same_or c 58) as (λ x. c ∷ t ≡ before_first is_colon (c ∷ t) ++ 58 ∷ after_first is_colon (c ∷ t)) [
  | inl e ↦ rw e refl
  | inr n ↦
      let rest : list_any is_colon t ≡ true = rw n at h in
      let k = position_or_len is_colon t in
      let one : 1 + k ≡ suc k = omega arith in
      let two : 1 + k + 1 ≡ suc (k + 1) = omega arith in
      rw n (sym (ap (λ m. take m (c ∷ t) ++ 58 ∷ drop (1 + k + 1) (c ∷ t)) one ∙ ap (λ m. (c ∷ take k t) ++ 58 ∷ drop m (c ∷ t)) two ∙ ap (λ x. c ∷ x) (sym (split-first t rest))))
]

-- a written name with a colon is its prefix, the colon and its local part
pub qname-splits : (t : List ℕ) → has_prefix t ≡ true → t ≡ prefix_of t ++ 58 ∷ local_of t
qname-splits t h = rw h (split-first t h)

colon-byte : is_qname_byte 58 ≡ true
unfolding is_name_byte is_name_char is_name_start
colon-byte = refl

pub cond-then : (b x y : Bool) → b ≡ true → (if b then x else y) ≡ true → x ≡ true
cond-then true x y e h = h
cond-then false x y e h = absurd (cc)

pub cond-else : (b x y : Bool) → b ≡ false → (if b then x else y) ≡ true → y ≡ true
cond-else true x y e h = absurd (cc)
cond-else false x y e h = h

-- the parts of a qualified name
pub qname-parts : (t : List ℕ) → has_prefix t ≡ true → is_qname t ≡ true → (is_ncname (prefix_of t) ≡ true) × (is_ncname (local_of t) ≡ true)
qname-parts t y h = and_parts (is_ncname (prefix_of t)) (is_ncname (local_of t)) (cond-then (has_prefix t) (is_ncname (prefix_of t) && is_ncname (local_of t)) (is_ncname t) y h)

pub qname-plain : (t : List ℕ) → has_prefix t ≡ false → is_qname t ≡ true → is_ncname t ≡ true
qname-plain t n h = cond-else (has_prefix t) (is_ncname (prefix_of t) && is_ncname (local_of t)) (is_ncname t) n h

pub qname-bytes : (t : List ℕ) → is_qname t ≡ true → list_all is_qname_byte t ≡ true
qname-bytes t h = elim (either (has_prefix t)) as (λ x. list_all is_qname_byte t ≡ true) [
  | inl y ↦
      let p = qname-parts t y h in
      subst (λ x. list_all is_qname_byte x ≡ true) (sym (qname-splits t y))
      (all-append is_qname_byte (prefix_of t) (58 ∷ local_of t) (widen (prefix_of t) (ncname-bytes (prefix_of t) p.0))
      (and_both (is_qname_byte 58) (list_all is_qname_byte (local_of t)) colon-byte (widen (local_of t) (ncname-bytes (local_of t) p.1))))
  | inr n ↦ widen t (ncname-bytes t (qname-plain t n h))
]

pub qname-some : (t : List ℕ) → is_qname t ≡ true → t ≢ []
qname-some t h e =
    let q : is_qname [] ≡ true = subst (λ x. is_qname x ≡ true) e h in
    ncname-some [] q refl

-- a byte of a qualified name is no white space, `=` or `/`
pub name-not-white : (b : ℕ) → is_qname_byte b ≡ true → is_white b ≡ false
unfolding is_name_byte is_name_char is_name_start
name-not-white b h = rw (not_this is_qname_byte 0x20 b refl h, not_this is_qname_byte 0x9 b refl h, not_this is_qname_byte 0xA b refl h, not_this is_qname_byte 0xD b refl h) refl

pub name-not : (k b : ℕ) → is_qname_byte k ≡ false → is_qname_byte b ≡ true → (b == k) ≡ false
name-not k b n h = not_this is_qname_byte k b n h
