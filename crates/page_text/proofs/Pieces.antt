-- Bytes that are more than the front of a character read the same, whatever follows.
use Rattle.std.proofs.Common.{◌≡◌, ◌≢◌, ℕ, ◌<◌, ◌≤◌, ◌==◌, ◌&&◌, true, cond, nat_lt, nat_le, List, ◌++◌, length, slice_index, refl, sym, ap, ◌∙◌, arith, rules, subst, length-append, ⊎_elim}
use Rattle.std.proofs.lemmas.Bool.{lt-ltb, le-leb, cases_lt}
use Rattle.std.proofs.lemmas.Bool.Decides.{Decides-eqb}
use Rattle.std.proofs.lemmas.List.{get_or_append_left}
use Rattle.bstr.specs.Utf8.{decoded, decoded_by, second, continues, bad}
use Rattle.bstr.proofs.lemmas.PieceLemmas.{by-shape, decoded_by-cut, value-4, value-7, value-10}
use Rattle.page_text.specs.Fronts.{front, front_on}
use Rattle.page_text.specs.declared.fronts.Front.TheVariants.{Part, Ill}

at-front : (v xs : List ℕ) (i : ℕ) → i < length v → slice_index (v ++ xs) i ≡ slice_index v i
at-front v xs i h = search (rules, get_or_append_left)

abbrev IsFront : ℕ → ℕ → ℕ → ℕ → ℕ → Type 0
IsFront k b c d e = (decoded_by k b c d e ≡ bad k) × (k < 4) × (0xC2 ≤ b) × (b ≤ 0xF4)

front-1 : (k b c d e : ℕ) → k ≡ 1 → 0xC2 ≤ b → b ≤ 0xF4 → IsFront k b c d e
front-1 k b c d e one low high = (value-4 k b c d e (omega arith, low, high, omega arith) ∙ ap bad (sym one), omega arith, omega arith, omega arith)

front-2 : (k b c d e : ℕ) → k ≡ 2 → 0xE0 ≤ b → b ≤ 0xF4 → second b c ≡ true → IsFront k b c d e
front-2 k b c d e two low high s = (value-7 k b c d e (omega arith, low, high, s, omega arith) ∙ ap bad (sym two), omega arith, omega arith, omega arith)

front-3 : (k b c d e : ℕ) → k ≡ 3 → 0xF0 ≤ b → b ≤ 0xF4 → second b c ≡ true → continues d ≡ true → IsFront k b c d e
front-3 k b c d e three low high s t = (value-10 k b c d e (omega arith, low, high, s, t, omega arith) ∙ ap bad (sym three), omega arith, omega arith, omega arith)

front-12 : (k b c d e : ℕ) → 0 < k → k < 3 → 0xE0 ≤ b → b ≤ 0xF4 → (1 < k → second b c ≡ true) → IsFront k b c d e
front-12 k b c d e pos few low high s =
    ⊎_elim (λ one. front-1 k b c d e (omega arith) (omega arith) high) (λ two. front-2 k b c d e (omega arith) low high (s (omega arith))) (cases_lt k 2)

-- a front of a piece that is longer
part-of : (k n b c d e c' d' e' : ℕ) → 0 < k → k < (decoded_by n b c d e).size → k ≤ n → (1 < k → c' ≡ c) → (2 < k → d' ≡ d) → IsFront k b c' d' e'
part-of k n b c d e c' d' e' pos long high second_c third_d = by-shape n b c d e
    (λ h. let s = ap (λ p. p.size) h.1 in absurd (omega arith))
    (λ h. let s = ap (λ p. p.size) h.2 in absurd (omega arith))
    (λ h. let s = ap (λ p. p.size) h.3 in absurd (omega arith))
    (λ h. let s = ap (λ p. p.size) h.2 in absurd (omega arith))
    (λ h. let s = ap (λ p. p.size) h.4 in absurd (omega arith))
    (λ h. let s = ap (λ p. p.size) h.4 in absurd (omega arith))
    (λ h. let s = ap (λ p. p.size) h.4 in front-1 k b c' d' e' (omega arith) (omega arith) (omega arith))
    (λ h. let s = ap (λ p. p.size) h.5 in front-1 k b c' d' e' (omega arith) (omega arith) (omega arith))
    (λ h. let s = ap (λ p. p.size) h.5 in front-1 k b c' d' e' (omega arith) (omega arith) (omega arith))
    (λ h. let s = ap (λ p. p.size) h.5 in front-12 k b c' d' e' pos (omega arith) (omega arith) (omega arith) (λ m. ap (second b) (second_c m) ∙ h.3))
    (λ h. let s = ap (λ p. p.size) h.6 in front-12 k b c' d' e' pos (omega arith) (omega arith) (omega arith) (λ m. ap (second b) (second_c m) ∙ h.3))
    (λ h. let s = ap (λ p. p.size) h.6 in front-12 k b c' d' e' pos (omega arith) (omega arith) (omega arith) (λ m. ap (second b) (second_c m) ∙ h.3))
    (λ h. let s = ap (λ p. p.size) h.6 in
    ⊎_elim (λ few. front-12 k b c' d' e' pos few (omega arith) (omega arith) (λ m. ap (second b) (second_c m) ∙ h.3))
    (λ three. front-3 k b c' d' e' (omega arith) (omega arith) (omega arith) (ap (second b) (second_c (omega arith)) ∙ h.3) (ap continues (third_d (omega arith)) ∙ h.4))
    (cases_lt k 3))

front-part : (v : List ℕ) → IsFront (length v) (slice_index v 0) (slice_index v 1) (slice_index v 2) (slice_index v 3) → front v ≡ Part
front-part v f =
    let tests : (nat_lt (length v) 4 && (length v == length v) && (nat_le 0xC2 (slice_index v 0) && nat_le (slice_index v 0) 0xF4)) ≡ true =
    rw (lt-ltb (length v) 4 f.1, (Decides-eqb (length v) (length v)).1 refl, le-leb 0xC2 (slice_index v 0) f.2, le-leb (slice_index v 0) 0xF4 f.3) refl in
    ap (λ p. front_on p.char v) f.0
    ∙ ap (λ p. cond (nat_lt (length v) 4 && (p.size == length v) && (nat_le 0xC2 (slice_index v 0) && nat_le (slice_index v 0) 0xF4)) Part Ill) f.0
    ∙ ap (λ t. cond t Part Ill) tests

-- what is no front of a character reads the same before more bytes
pub decoded-more : (v xs : List ℕ) → 0 < length v → front v ≢ Part → decoded (v ++ xs) ≡ decoded v
decoded-more v xs pos whole =
    let l = length-append v xs in
    let first = at-front v xs 0 pos in
    let b = slice_index v 0 in
    let c = slice_index (v ++ xs) 1 in let d = slice_index (v ++ xs) 2 in let e = slice_index (v ++ xs) 3 in
    let same : decoded (v ++ xs) ≡ decoded_by (length (v ++ xs)) b c d e = ap (λ z. decoded_by (length (v ++ xs)) z c d e) first in
    let n = length (v ++ xs) in
    same ∙ ⊎_elim
    (λ long. absurd (whole (front-part v (part-of (length v) n b c d e (slice_index v 1) (slice_index v 2) (slice_index v 3) pos long (omega arith)
    (λ m. sym (at-front v xs 1 m)) (λ m. sym (at-front v xs 2 m))))))
    (λ short. sym (decoded_by-cut (length v) n b c d e (slice_index v 1) (slice_index v 2) (slice_index v 3) short (omega arith) pos
    (λ m. sym (at-front v xs 1 m)) (λ m. sym (at-front v xs 2 m)) (λ m. sym (at-front v xs 3 m))))
    (cases_lt (length v) (decoded_by n b c d e).size)

-- what reads as a piece of a front reads so in the front alone
pub decoded-less : (v xs : List ℕ) → 0 < length v → (decoded (v ++ xs)).size ≤ length v → decoded (v ++ xs) ≡ decoded v
decoded-less v xs pos short =
    let l = length-append v xs in
    let b = slice_index v 0 in
    let c = slice_index (v ++ xs) 1 in let d = slice_index (v ++ xs) 2 in let e = slice_index (v ++ xs) 3 in
    let n = length (v ++ xs) in
    let same : decoded (v ++ xs) ≡ decoded_by n b c d e = ap (λ z. decoded_by n z c d e) (at-front v xs 0 pos) in
    let size : (decoded_by n b c d e).size ≤ length v = subst (λ z. z.size ≤ length v) same short in
    same ∙ sym (decoded_by-cut (length v) n b c d e (slice_index v 1) (slice_index v 2) (slice_index v 3) size (omega arith) pos
    (λ m. sym (at-front v xs 1 m)) (λ m. sym (at-front v xs 2 m)) (λ m. sym (at-front v xs 3 m)))
