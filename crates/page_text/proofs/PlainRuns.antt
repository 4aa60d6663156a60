-- A text of clear bytes is plain.
use Rattle.std.proofs.Common.{◌≡◌, ℕ, ◌+◌, ◌/◌, ◌<◌, ◌≤◌, ◌&&◌, ◌⊎◌, inl, inr, Bool, true, false, List, [], ◌∷◌, take, drop, take-add, take-append-drop, refl, sym, ap, ◌∙◌, arith, ⊎_elim}
use Rattle.std.proofs.lemmas.Bool.{and_parts, cases_lt}
use Rattle.std.proofs.Math.Dec.{ltb}
use Rattle.std.proofs.Math.Utf8.{scalar, scalar_cases}
use Rattle.std.proofs.lemmas.Bool.Decides.{nat_tests}
use Rattle.std.proofs.lemmas.List.Folds.{list_all-append}
use Rattle.std.proofs.lemmas.Str.{encodes-chars, scalars-chars, is_utf8-from_IsUtf8, encode_ascii}
use Rattle.std.specs.List.{list_all}
use Rattle.std.specs.Str as str
use Rattle.std.specs.Str.{IsUtf8, encode_utf8_all, all_scalars}
use Rattle.std.specs.Char.{IsScalar, encode_utf8}
use Rattle.ix_base.specs.NcName.{is_allowed}
use Rattle.page_text.specs.Plain.{is_plain, are_plain, is_clear}

-- a character of one byte
one-plain : (c : ℕ) → is_clear c ≡ true → c < 0x80 → is_plain c ≡ true
unfolding is_allowed
one-plain c h low = grind (arith, nat_tests)

-- one of more bytes, none of which is 0xEF
more-plain : (c : ℕ) → (c < 0xD800) ⊎ ((0xE000 ≤ c) × (c < 0x110000)) → 0x80 ≤ c → (c < 0xF000) ⊎ (0x10000 ≤ c) → is_plain c ≡ true
unfolding is_allowed
more-plain c s more out = grind (arith, nat_tests)

-- one that begins with 0xEF
late-unclear : (c : ℕ) → 0xF000 ≤ c → c < 0x10000 → list_all is_clear (encode_utf8 c) ≡ false
unfolding encode_utf8
late-unclear c low high =
    let not_one : ltb c 128 ≡ false = grind (arith, nat_tests) in
    let not_two : ltb c 2048 ≡ false = grind (arith, nat_tests) in
    let three : ltb c 65536 ≡ true = grind (arith, nat_tests) in
    let first : 224 + c / 4096 ≡ 0xEF = omega arith in
    rw (not_one, not_two, three, first) refl

clear-plain : (c : ℕ) → IsScalar c → list_all is_clear (encode_utf8 c) ≡ true → is_plain c ≡ true
clear-plain c s h =
    let range = scalar_cases c s in
    ⊎_elim
    (λ low. one-plain c ((and_parts (is_clear c) true (ap (list_all is_clear) (sym (encode_ascii c low)) ∙ h)).0) low)
    (λ more. ⊎_elim
    (λ below. more-plain c range more (inl below))
    (λ late. ⊎_elim
    (λ inside. absurd (clash (list_all is_clear (encode_utf8 c)) h (late-unclear c late inside)))
    (λ beyond. more-plain c range more (inr beyond))
    (cases_lt c 0x10000))
    (cases_lt c 0xF000))
    (cases_lt c 0x80) where
      clash : (b : Bool) → b ≡ true → b ≡ false → ⊥
      clash b y n = cc

all-plain : (cs : List ℕ) → all_scalars cs ≡ true → list_all is_clear (encode_utf8_all cs) ≡ true → list_all is_plain cs ≡ true
all-plain [] s h = refl
all-plain (c ∷ cs) s h =
    let z = and_parts (list_all is_clear (encode_utf8 c)) (list_all is_clear (encode_utf8_all cs)) (sym (list_all-append is_clear (encode_utf8 c) (encode_utf8_all cs)) ∙ h) in
    let y = and_parts (scalar c) (all_scalars cs) s in
    rw (clear-plain c y.0 z.0, all-plain cs y.1 z.1) refl

pub text-plain : (text : List ℕ) → IsUtf8 text → list_all is_clear text ≡ true → are_plain text ≡ true
text-plain text u h =
    rw (is_utf8-from_IsUtf8 text u) (ap (λ b. true && b) (all-plain (str.chars text) (scalars-chars text u) (ap (list_all is_clear) (encodes-chars text u) ∙ h)))

pub all-front : (n : ℕ) (xs : List ℕ) → list_all is_clear xs ≡ true → list_all is_clear (take n xs) ≡ true
all-front n xs h =
    (and_parts (list_all is_clear (take n xs)) (list_all is_clear (drop n xs))
    (sym (list_all-append is_clear (take n xs) (drop n xs)) ∙ ap (list_all is_clear) (take-append-drop n xs) ∙ h)).0

-- bytes at the front, and those behind them
pub all-joined : (m n : ℕ) (xs : List ℕ) → list_all is_clear (take m xs) ≡ true → list_all is_clear (take n (drop m xs)) ≡ true
    → list_all is_clear (take (m + n) xs) ≡ true
all-joined m n xs front rest =
    ap (list_all is_clear) (take-add m n xs) ∙ list_all-append is_clear (take m xs) (take n (drop m xs)) ∙ rw (front, rest) refl
