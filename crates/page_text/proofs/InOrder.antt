-- The characters of a page are allowed ones, stand one behind another, and within the bytes that they were read from.
use Rattle.std.proofs.Common.{◌≡◌, ℕ, suc, zero, ◌+◌, ◌-◌, ◌<◌, ◌≤◌, ◌==◌, Bool, true, false, ◌&&◌, cond, nat_lt, if◌then◌else◌, IfSome, List, [], ◌∷◌, ◌++◌, length, drop, Option, Some, None, option_to_list, refl, sym, ap, ◌∙◌, subst, arith, length-drop, length-append, slice_index}
use Rattle.std.specs.Char.{len_utf8}
use Rattle.std.proofs.lemmas.Bool.{eqb-true}
use Rattle.std.proofs.lemmas.Bool.Decides.{nat_tests}
use Rattle.bstr.specs.Utf8.{Decoded, decoded, decoded_by, bad, good, second, continues, code_of_2, code_of_3, code_of_4}
use Rattle.bstr.proofs.lemmas.PieceLemmas.{piece-bounds}
use Rattle.page_text.specs.Characters.{mark, Scan, scan_on, scan_from, scan, unified, chars, begun}
use Rattle.ix_base.specs.NcName.{is_allowed}
use Rattle.page_text.specs.Fronts.{front_on, is_part}
use Rattle.page_text.specs.Order.{AreInOrder}
use Rattle.page_text.specs.Model.{Reading, after, seen, due_on, due}
use Rattle.page_text.specs.declared.Mark.{Mark}
use Rattle.page_text.specs.declared.TextFault.{TextFault}
use Rattle.page_text.proofs.Readings.{IsSound, pushed-after}

-- a character takes no more bytes when it is written than where it was read
Fits : Decoded → Type 0
Fits d = (c : ℕ) → d.char ≡ Some c → len_utf8 c ≤ d.size

fits-cond : (t : Bool) (x y : Decoded) → (t ≡ true → Fits x) → (t ≡ false → Fits y) → Fits (cond t x y)
fits-cond true x y p q = p refl
fits-cond false x y p q = q refl

fits-bad : (n : ℕ) → Fits (bad n)
unfolding Fits
fits-bad n c e = absurd (cc)

fits-good : (d n : ℕ) → len_utf8 d ≤ n → Fits (good d n)
unfolding Fits
fits-good d n h c e = let z : d ≡ c = cc in subst (λ x. len_utf8 x ≤ n) z h

one-byte : (b : ℕ) → nat_lt b 0x80 ≡ true → len_utf8 b ≤ 1
one-byte b h = rw h (omega arith)

short : (c : ℕ) → c < 2048 → len_utf8 c ≤ 2
short c h = grind (arith, nat_tests)

middle : (c : ℕ) → c < 65536 → len_utf8 c ≤ 3
middle c h = grind (arith, nat_tests)

any : (c : ℕ) → len_utf8 c ≤ 4
any c = grind (arith, nat_tests)

second-top : (b c : ℕ) → second b c ≡ true → c < 0xC0
second-top b c h = grind (arith, nat_tests)

two-bytes : (b c : ℕ) → second b c ≡ true → nat_lt b 0xE0 ≡ true → len_utf8 (code_of_2 b c) ≤ 2
two-bytes b c s l = let t = second-top b c s in let k : b < 0xE0 = grind (arith, nat_tests) in short (code_of_2 b c) (omega arith)

three-bytes : (b c d : ℕ) → second b c ≡ true → continues d ≡ true → nat_lt b 0xF0 ≡ true → len_utf8 (code_of_3 b c d) ≤ 3
three-bytes b c d s t l =
    let x = second-top b c s in let y : d < 0xC0 = grind (arith, nat_tests) in let k : b < 0xF0 = grind (arith, nat_tests) in
    middle (code_of_3 b c d) (omega arith)

decoded-fits : (n b c d e : ℕ) → Fits (decoded_by n b c d e)
decoded-fits n b c d e =
    fits-cond (n == 0) _ _ (λ x. fits-bad 0) (λ x.
    fits-cond (nat_lt b 0x80) _ _ (λ h. fits-good b 1 (one-byte b h)) (λ x.
    fits-cond (nat_lt b 0xC2) _ _ (λ x. fits-bad 1) (λ x.
    fits-cond (nat_lt 0xF4 b) _ _ (λ x. fits-bad 1) (λ x.
    fits-cond (nat_lt n 2) _ _ (λ x. fits-bad 1) (λ x.
    fits-cond (second b c) _ _ (λ s.
    fits-cond (nat_lt b 0xE0) _ _ (λ l. fits-good (code_of_2 b c) 2 (two-bytes b c s l)) (λ x.
    fits-cond (nat_lt n 3) _ _ (λ x. fits-bad 2) (λ x.
    fits-cond (continues d) _ _ (λ t.
    fits-cond (nat_lt b 0xF0) _ _ (λ l. fits-good (code_of_3 b c d) 3 (three-bytes b c d s t l)) (λ x.
    fits-cond (nat_lt n 4) _ _ (λ x. fits-bad 3) (λ x.
    fits-cond (continues e) _ _ (λ x. fits-good (code_of_4 b c d e) 4 (any (code_of_4 b c d e))) (λ x. fits-bad 3))))
    (λ x. fits-bad 2)))) (λ x. fits-bad 1))))))

later : (from at to : ℕ) (ms : List Mark) → from ≤ at → AreInOrder at to ms → AreInOrder from to ms
later from at to [] l g = tt
later from at to (m ∷ ms) l g = (g.0, (let z = g.1 in omega arith), g.2, g.3)

scan-in-order : (n : ℕ) (w : Bool) (at : ℕ) (bs : List ℕ) (to : ℕ) → at + length bs ≤ to → AreInOrder at to (scan_from n w at bs).marks
unfolding scan_from Fits
scan-in-order zero w at bs to h = tt
scan-in-order (suc n) w at [] to h = tt
scan-in-order (suc n) w at (b ∷ bs) to h =
    by_char (scan_from n w (at + (decoded (b ∷ bs)).size) (drop (decoded (b ∷ bs)).size (b ∷ bs)))
    (scan-in-order n w (at + (decoded (b ∷ bs)).size) (drop (decoded (b ∷ bs)).size (b ∷ bs)) to (let s = size in omega (arith, length-drop (decoded (b ∷ bs)).size (b ∷ bs)))) (decoded (b ∷ bs)).char refl where
      size : (decoded (b ∷ bs)).size ≤ length (b ∷ bs)
      size = (piece-bounds (b ∷ bs) (omega arith)).2

      fits : Fits (decoded (b ∷ bs))
      fits = decoded-fits (length (b ∷ bs)) (slice_index (b ∷ bs) 0) (slice_index (b ∷ bs) 1) (slice_index (b ∷ bs) 2) (slice_index (b ∷ bs) 3)

      by_part : (rest : Scan) (v p : Bool) → is_part (b ∷ bs) ≡ p → AreInOrder at to (scan_on v at (b ∷ bs) (front_on None (b ∷ bs)) rest).marks
      by_part rest true true e = rw e tt
      by_part rest false true e = rw e tt
      by_part rest v false e = rw e tt

      by_allowed : (rest : Scan) → AreInOrder (at + (decoded (b ∷ bs)).size) to rest.marks → (c : ℕ) → (decoded (b ∷ bs)).char ≡ Some c → (t : Bool) → is_allowed c ≡ t
          → AreInOrder at to (scan_on w at (b ∷ bs) (front_on (Some c) (b ∷ bs)) rest).marks
      by_allowed rest g c e true k = rw k (
        k,
        omega arith,
        (let f = fits c e in let s = size in omega arith),
        later (at + len_utf8 c) (at + (decoded (b ∷ bs)).size) to rest.marks (let z = fits c e in omega arith) g,
      )
      by_allowed rest g c e false k = rw k tt

      by_char : (rest : Scan) → AreInOrder (at + (decoded (b ∷ bs)).size) to rest.marks → (o : Option ℕ) → (decoded (b ∷ bs)).char ≡ o → AreInOrder at to (scan_on w at (b ∷ bs) (front_on o (b ∷ bs)) rest).marks
      by_char rest g None e = by_part rest w (is_part (b ∷ bs)) refl
      by_char rest g (Some c) e = by_allowed rest g c e (is_allowed c) refl

unified-in-order : (cr : Bool) (at to : ℕ) (ms : List Mark) → AreInOrder at to ms → AreInOrder at to (unified cr ms)
unfolding unified is_allowed
unified-in-order cr at to [] g = tt
unified-in-order cr at to (m ∷ ms) g = by_return (unified (m.ch == 0xD) ms) (unified-in-order (m.ch == 0xD) (m.offset + len_utf8 m.ch) to ms g.3) (m.ch == 0xD) refl where
  gone : (rest : List Mark) → AreInOrder (m.offset + len_utf8 m.ch) to rest → AreInOrder at to rest
  gone rest h = later at (m.offset + len_utf8 m.ch) to rest (let z = g.1 in omega arith) h

  by_order : (rest : List Mark) → AreInOrder (m.offset + len_utf8 m.ch) to rest → (t : Bool) → AreInOrder at to ((if t then [] else mark m.ch m.offset ∷ []) ++ rest)
  by_order rest h true = gone rest h
  by_order rest h false = (g.0, g.1, g.2, h)

  by_feed : (rest : List Mark) → AreInOrder (m.offset + len_utf8 m.ch) to rest → (t : Bool) → AreInOrder at to ((if t then [] else (if m.ch == 0xFEFF && m.offset == 0 then [] else mark m.ch m.offset ∷ [])) ++ rest)
  by_feed rest h true = gone rest h
  by_feed rest h false = by_order rest h (m.ch == 0xFEFF && m.offset == 0)

  by_return : (rest : List Mark) → AreInOrder (m.offset + len_utf8 m.ch) to rest → (t : Bool) → (m.ch == 0xD) ≡ t
      → AreInOrder at to ((if t then mark 0xA m.offset ∷ [] else (if cr && m.ch == 0xA then [] else (if m.ch == 0xFEFF && m.offset == 0 then [] else mark m.ch m.offset ∷ []))) ++ rest)
  by_return rest h true e =
      let k : len_utf8 m.ch ≡ len_utf8 0xD = ap len_utf8 (eqb-true m.ch 0xD e) in
      (refl, g.1, (let z = g.2 in omega arith), subst (λ n. AreInOrder (m.offset + n) to rest) k h)
  by_return rest h false e = by_feed rest h (cr && m.ch == 0xA)

-- the characters of a page, and those of a page's front
pub page-in-order : (b : List ℕ) → AreInOrder 0 (length b) (chars b)
page-in-order b = unified-in-order false 0 (length b) (scan true 0 b).marks (scan-in-order (length b) true 0 b (length b) (omega arith))

pub front-in-order : (b : List ℕ) → AreInOrder 0 (length b) (begun b)
front-in-order b = unified-in-order false 0 (length b) (scan false 0 b).marks (scan-in-order (length b) false 0 b (length b) (omega arith))

-- the characters that a piece makes certain
pub due-in-order : (r : Reading) (piece : List ℕ) → length r.part ≤ r.pushed → AreInOrder (r.pushed - length r.part) (r.pushed + length piece) (due r piece)
unfolding due
due-in-order r piece p = by_fault r.fault where
  shown : AreInOrder (r.pushed - length r.part) (r.pushed + length piece) (unified r.after_cr (seen r piece).marks)
  shown =
      unified-in-order r.after_cr (r.pushed - length r.part) (r.pushed + length piece) (seen r piece).marks
      (scan-in-order (length (r.part ++ piece)) false (r.pushed - length r.part) (r.part ++ piece) (r.pushed + length piece) (omega (arith, length-append r.part piece)))

  by_fault : (o : Option TextFault) → AreInOrder (r.pushed - length r.part) (r.pushed + length piece) (due_on o (unified r.after_cr (seen r piece).marks))
  by_fault None = shown
  by_fault (Some f) = tt

-- the one that a byte makes certain
one-within : (o : Option Mark) (from to : ℕ) → AreInOrder from to (option_to_list o) → IfSome o (λ m. m.offset + len_utf8 m.ch ≤ to)
one-within None from to g = tt
one-within (Some m) from to g = g.2

pub byte-within : (r next : Reading) (b : ℕ) (o : Option Mark) → IsSound r → next ≡ after r (b ∷ []) → option_to_list o ≡ due r (b ∷ []) → IfSome o (λ m. m.offset + len_utf8 m.ch ≤ next.pushed)
byte-within r next b o sound state given =
    let to : next.pushed ≡ r.pushed + length (b ∷ []) = ap (λ (x : Reading). x.pushed) state ∙ pushed-after r (b ∷ []) in
    let order : AreInOrder (r.pushed - length r.part) (r.pushed + length (b ∷ [])) (option_to_list o) = subst (AreInOrder (r.pushed - length r.part) (r.pushed + length (b ∷ []))) (sym given) (due-in-order r (b ∷ []) sound.0) in
    subst (λ n. IfSome o (λ m. m.offset + len_utf8 m.ch ≤ n)) (sym to) (one-within o (r.pushed - length r.part) (r.pushed + length (b ∷ [])) order)
