-- A page without a break is its bytes, with the line ends unified and without a byte order mark at its front.
use Rattle.std.proofs.Common.{◌≡◌, ◌∙◌, ℕ, zero, suc, ◌+◌, ◌/◌, ◌%◌, ◌<◌, ◌≤◌, ◌==◌, nat_lt, Bool, true, false, not, ◌&&◌, cond, if◌then◌else◌, List, [], ◌∷◌, ◌++◌, length, drop, Some, None, refl, sym, ap, arith, append-nil}
use lib.Utf8.{encode}
use Rattle.std.specs.List.{list_all}
use Rattle.std.proofs.lemmas.Bool.{and_parts, not-true}
use Rattle.std.proofs.lemmas.Bool.Decides.{nat_tests}
use Rattle.std.proofs.lemmas.List.{length-drop}
use Rattle.std.proofs.lemmas.Str.{encode_ascii, length-encode, len_utf8_bounds}
use Rattle.bstr.specs.Utf8.{decoded}
use Rattle.bstr.proofs.lemmas.EncodeLemmas.{decoded-encode}
use Rattle.page_text.specs.Characters.{mark, scan, shown, unified, stop}
use Rattle.page_text.specs.declared.Mark.{Mark}
use Rattle.page_text.proofs.Scans.{scan-nil}
use Rattle.page_text.proofs.NextChar.{IsNext, next-char}
use Rattle.page_constructs.specs.Constructs.{Byte, counted, spread, text_of, starts}
use Rattle.page_tree.proofs.PlacingLaws.{spread-append}
use Rattle.page_constructs.proofs.SpanLaws.{one_number, starts-front, clash}
use Rattle.page_tree.specs.Raw.{raw, mark_bytes, mark_size}
use Rattle.page_tree.proofs.RawLaws.{raw-returns, raw-skips, raw-stays}

-- bytes that are no line ends
is_calm : ℕ → Bool
is_calm b = not (b == 13) && not (b == 10)

calm-is : (b : ℕ) → (b == 13) ≡ false → (b == 10) ≡ false → is_calm b ≡ true
unfolding is_calm
calm-is b e f = rw (e, f) refl

calm-parts : (b : ℕ) → is_calm b ≡ true → ((b == 13) ≡ false) × ((b == 10) ≡ false)
unfolding is_calm
calm-parts b h = let z = and_parts (not (b == 13)) (not (b == 10)) h in (not-true (b == 13) z.0, not-true (b == 10) z.1)

high : (b : ℕ) → 128 ≤ b → is_calm b ≡ true
high b h = calm-is b (grind (arith, nat_tests)) (grind (arith, nat_tests))

calm-encode : (c : ℕ) → is_calm c ≡ true → list_all is_calm (encode c) ≡ true
unfolding encode
calm-encode c h =
    elim (nat_lt c 128) as (λ x. list_all is_calm (cond x (c ∷ []) (cond (nat_lt c 2048) ((192 + c / 64) ∷ (128 + c % 64) ∷ []) (cond (nat_lt c 65536) ((224 + c / 4096) ∷ (128 + (c / 64) % 64) ∷ (128 + c % 64) ∷ []) ((240 + c / 262144) ∷ (128 + (c / 4096) % 64) ∷ (128 + (c / 64) % 64) ∷ (128 + c % 64) ∷ [])))) ≡ true) [
      | true ↦ rw h refl
      | false ↦ elim (nat_lt c 2048) as (λ x. list_all is_calm (cond x ((192 + c / 64) ∷ (128 + c % 64) ∷ []) (cond (nat_lt c 65536) ((224 + c / 4096) ∷ (128 + (c / 64) % 64) ∷ (128 + c % 64) ∷ []) ((240 + c / 262144) ∷ (128 + (c / 4096) % 64) ∷ (128 + (c / 64) % 64) ∷ (128 + c % 64) ∷ []))) ≡ true) [
        | true ↦ rw (high (192 + c / 64) (omega arith), high (128 + c % 64) (omega arith)) refl
        | false ↦ elim (nat_lt c 65536) as (λ x. list_all is_calm (cond x ((224 + c / 4096) ∷ (128 + (c / 64) % 64) ∷ (128 + c % 64) ∷ []) ((240 + c / 262144) ∷ (128 + (c / 4096) % 64) ∷ (128 + (c / 64) % 64) ∷ (128 + c % 64) ∷ [])) ≡ true) [
          | true ↦ rw (high (224 + c / 4096) (omega arith), high (128 + (c / 64) % 64) (omega arith), high (128 + c % 64) (omega arith)) refl
          | false ↦ rw (high (240 + c / 262144) (omega arith), high (128 + (c / 4096) % 64) (omega arith), high (128 + (c / 64) % 64) (omega arith), high (128 + c % 64) (omega arith)) refl
        ]
      ]
    ]

any-calm : (cr : Bool) (b : ℕ) → (b == 10) ≡ false → (cr && (b == 10)) ≡ false
any-calm true b e = e
any-calm false b e = refl

raw-calm : (b : ℕ) (v rest : List ℕ) (cr : Bool) (at : ℕ) → list_all is_calm (b ∷ v) ≡ true → raw cr at (b ∷ (v ++ rest)) ≡ counted at (b ∷ v) ++ raw false (at + length (b ∷ v)) rest
raw-calm b [] rest cr at h =
    let z = calm-parts b (and_parts (is_calm b) true h).0 in
    raw-stays cr b at rest z.0 (any-calm cr b z.1) ∙ ap (λ n. record { value = b; at = at } ∷ raw false n rest) (omega arith)
raw-calm b (d ∷ v) rest cr at h =
    let y = and_parts (is_calm b) (list_all is_calm (d ∷ v)) h in
    let z = calm-parts b y.0 in
    raw-stays cr b at (d ∷ (v ++ rest)) z.0 (any-calm cr b z.1)
    ∙ ap (λ l. record { value = b; at = at } ∷ l) (raw-calm d v rest false (at + 1) y.1)
    ∙ ap (λ n. record { value = b; at = at } ∷ (counted (at + 1) (d ∷ v) ++ raw false n rest)) (omega arith)

-- a character behind the front of the page
shows-by : (cr : Bool) (c at : ℕ) (r : List ℕ) (us : List Byte) → ((c == 0xFEFF) && (at == 0)) ≡ false → us ≡ raw (c == 13) (at + length (encode c)) r → spread (shown cr c at) ++ us ≡ raw cr at (encode c ++ r)
shows-by cr c at r us p h = by (c == 13) (c == 10) refl refl where
  ascii : (k : ℕ) → k < 128 → (c == k) ≡ true → encode c ≡ k ∷ []
  ascii k l e = ap encode (one_number c k e) ∙ encode_ascii k l

  whole : (v : List ℕ) → list_all is_calm v ≡ true → (v ≡ [] → ⊥) → (counted at v) ++ raw false (at + length v) r ≡ raw cr at (v ++ r)
  whole [] k n = absurd (n refl)
  whole (b ∷ v) k n = sym (raw-calm b v r cr at k)

  some : encode c ≡ [] → ⊥
  some e = (let l = length-encode c in let m = len_utf8_bounds c in let k : length (encode c) ≡ 0 = ap length e in absurd (omega arith))

  by : (x y : Bool) → (c == 13) ≡ x → (c == 10) ≡ y → spread (shown cr c at) ++ us ≡ raw cr at (encode c ++ r)
  by true y e f =
      ap (λ l. l ++ us) (ap spread (returned e) ∙ ap (λ v. counted at v ++ []) (encode_ascii 10 (omega arith)))
      ∙ ap (λ l. record { value = 10; at = at } ∷ l) (h ∙ ap (λ b. raw b (at + length (encode c)) r) e ∙ ap (λ v. raw true (at + length v) r) (ascii 13 (omega arith) e))
      ∙ sym (ap (λ v. raw cr at (v ++ r)) (ascii 13 (omega arith) e) ∙ raw-returns cr 13 at r refl) where
        returned : (c == 13) ≡ true → shown cr c at ≡ mark 10 at ∷ []
        returned e = rw e refl
  by false true e f = feed cr h where
    gone : (c == 13) ≡ false → (c == 10) ≡ true → shown true c at ≡ []
    gone e f = rw (e, f) refl

    feed : (b : Bool) → us ≡ raw (c == 13) (at + length (encode c)) r → spread (shown b c at) ++ us ≡ raw b at (encode c ++ r)
    feed true h =
        ap (λ l. spread l ++ us) (gone e f) ∙ h ∙ ap (λ b. raw b (at + length (encode c)) r) e ∙ ap (λ v. raw false (at + length v) r) (ascii 10 (omega arith) f)
        ∙ sym (ap (λ v. raw true at (v ++ r)) (ascii 10 (omega arith) f) ∙ raw-skips true 10 at r refl refl refl)
    feed false h =
        ap (λ l. spread l ++ us) (own false e refl) ∙ ap (λ v. (counted at v ++ []) ++ us) (ascii 10 (omega arith) f)
        ∙ ap (λ l. record { value = 10; at = at } ∷ l) (h ∙ ap (λ b. raw b (at + length (encode c)) r) e ∙ ap (λ v. raw false (at + length v) r) (ascii 10 (omega arith) f))
        ∙ sym (ap (λ v. raw false at (v ++ r)) (ascii 10 (omega arith) f) ∙ raw-stays false 10 at r refl refl) where
          own : (b : Bool) → (c == 13) ≡ false → (b && (c == 10)) ≡ false → shown b c at ≡ mark c at ∷ []
          own b e g = rw (e, g, p) refl
  by false false e f =
      ap (λ l. spread l ++ us) (own e (any-calm cr c f)) ∙ ap (λ l. l ++ us) (append-nil (counted at (encode c)))
      ∙ ap (λ l. counted at (encode c) ++ l) (h ∙ ap (λ b. raw b (at + length (encode c)) r) e)
      ∙ whole (encode c) (calm-encode c (calm-is c e f)) some where
        own : (c == 13) ≡ false → (cr && (c == 10)) ≡ false → shown cr c at ≡ mark c at ∷ []
        own e g = rw (e, g, p) refl

shows : (cr : Bool) (c at : ℕ) (r : List ℕ) (us : List Byte) → 0 < at → us ≡ raw (c == 13) (at + length (encode c)) r → spread (shown cr c at) ++ us ≡ raw cr at (encode c ++ r)
shows cr c at r us p h = shows-by cr c at r us (not-front (c == 0xFEFF)) h where
  not-front : (b : Bool) → (b && (at == 0)) ≡ false
  not-front true = grind (arith, nat_tests)
  not-front false = refl

-- characters behind the front of the page
pub scanned : (n at : ℕ) (bs : List ℕ) (cr : Bool) → length bs ≤ n → 0 < at → (scan true at bs).stop ≡ None → spread (unified cr (scan true at bs).marks) ≡ raw cr at bs
unfolding unified
scanned n at [] cr l p s = ap (λ z. spread (unified cr z.marks)) (scan-nil true at)
scanned zero at (b ∷ bs) cr l p s = absurd (omega arith)
scanned (suc n) at (b ∷ bs) cr l p s =
    let d = next-char at (b ∷ bs) (omega arith) s in
    let behind = drop d.size (b ∷ bs) in
    let ms = (scan true (at + d.size) behind).marks in
    let k = length-drop d.size (b ∷ bs) in
    let q = d.some in
    let more = scanned n (at + d.size) behind (d.char == 13) (omega arith) (omega arith) d.stop in
    ap (λ m. spread (unified cr m)) d.marks
    ∙ spread-append (shown cr d.char at) (unified (d.char == 13) ms)
    ∙ shows cr d.char at behind (spread (unified (d.char == 13) ms)) p (more ∙ ap (λ m. raw (d.char == 13) (at + m) behind) (sym d.width))
    ∙ ap (raw cr at) (sym d.bytes)

-- a byte order mark at the front
mark-encoded : encode 0xFEFF ≡ mark_bytes
unfolding encode
mark-encoded = refl

mark-decoded : (bs : List ℕ) → starts mark_bytes bs ≡ true → (decoded bs).char ≡ Some 0xFEFF
mark-decoded bs s =
    let whole : bs ≡ encode 0xFEFF ++ drop 3 bs = starts-front mark_bytes bs s ∙ ap (λ v. v ++ drop 3 bs) (sym mark-encoded) in
    ap (λ l. (decoded l).char) whole ∙ ap (λ d. d.char) (decoded-encode 0xFEFF (drop 3 bs) refl)

-- where the first character isn't one
shows-first : (c : ℕ) (r : List ℕ) (us : List Byte) → (c == 0xFEFF) ≡ false → us ≡ raw (c == 13) (0 + length (encode c)) r → spread (shown false c 0) ++ us ≡ raw false 0 (encode c ++ r)
shows-first c r us n h = shows-by false c 0 r us (rw n refl) h

by-mark : (b : List ℕ) (d : IsNext 0 b) (m : Bool) → starts mark_bytes b ≡ m → (ms : List Mark)
    → spread (unified (d.char == 13) ms) ≡ raw (d.char == 13) (0 + d.size) (drop d.size b) → spread (shown false d.char 0) ++ spread (unified (d.char == 13) ms) ≡ raw false (if m then 3 else 0) (drop (if m then 3 else 0) b)
by-mark b d true e ms h =
    let z : Some 0xFEFF ≡ Some d.char = sym (mark-decoded b e) ∙ d.is in
    let c : d.char ≡ 0xFEFF = cc in
    let size : d.size ≡ 3 = sym d.width ∙ ap (λ x. length (encode x)) c ∙ ap length mark-encoded in
    ap (λ x. spread (shown false x 0) ++ spread (unified (d.char == 13) ms)) c
    ∙ h ∙ ap (λ x. raw (x == 13) (0 + d.size) (drop d.size b)) c ∙ ap (λ n. raw false (0 + n) (drop n b)) size
by-mark b d false e ms h =
    let other : (d.char == 0xFEFF) ≡ false = unmarked b d e in
    shows-first d.char (drop d.size b) (spread (unified (d.char == 13) ms)) other (h ∙ ap (λ m. raw (d.char == 13) (0 + m) (drop d.size b)) (sym d.width))
    ∙ ap (raw false 0) (sym d.bytes) where
      unmarked : (b : List ℕ) (d : IsNext 0 b) → starts mark_bytes b ≡ false → (d.char == 0xFEFF) ≡ false
      unmarked b d e = by (d.char == 0xFEFF) refl where
        by : (x : Bool) → (d.char == 0xFEFF) ≡ x → (d.char == 0xFEFF) ≡ false
        by true f =
            let c : d.char ≡ 0xFEFF = one_number d.char 0xFEFF f in
            let whole : b ≡ mark_bytes ++ drop d.size b = d.bytes ∙ ap (λ x. encode x ++ drop d.size b) c ∙ ap (λ v. v ++ drop d.size b) mark-encoded in
            clash (starts mark_bytes b) (ap (starts mark_bytes) whole ∙ refl) e
        by false f = f

pub text-raw : (b : List ℕ) → stop b ≡ None → text_of b ≡ raw false (mark_size b) (drop (mark_size b) b)
unfolding unified
text-raw [] s = ap (λ z. spread (unified false z.marks)) (scan-nil true 0)
text-raw (x ∷ xs) s =
    let b = x ∷ xs in
    let d = next-char 0 b (omega arith) s in
    let behind = drop d.size b in
    let ms = (scan true (0 + d.size) behind).marks in
    let q = d.some in
    let more = scanned (length behind) (0 + d.size) behind (d.char == 13) (omega arith) (omega arith) d.stop in
    ap (λ m. spread (unified false m)) d.marks
    ∙ spread-append (shown false d.char 0) (unified (d.char == 13) ms)
    ∙ by-mark b d (starts mark_bytes b) refl ms more
