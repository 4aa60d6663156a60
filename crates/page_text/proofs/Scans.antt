-- The scan of some bytes, and of more.
use Rattle.std.proofs.Common.{◌≡◌, ◌≢◌, ℕ, zero, suc, ◌+◌, ◌-◌, ◌<◌, ◌≤◌, ◌==◌, ◌&&◌, Bool, true, false, cond, nat_lt, nat_le, List, [], ◌∷◌, ◌++◌, length, drop, slice_index, Option, Some, None, refl, sym, ap, ◌∙◌, arith, subst, append-nil, length-append, length-drop}
use Rattle.std.proofs.lemmas.Bool.Decides.{nat_tests}
use Rattle.std.proofs.lemmas.List.{drop-append-le}
use Rattle.bstr.specs.Utf8.{decoded}
use Rattle.bstr.proofs.lemmas.PieceLemmas.{piece-bounds}
use Rattle.page_text.specs.Fronts.{is_part, front, front_on}
use Rattle.page_text.specs.Characters.{Scan, mark, no_marks, scan_on, scan_from, scan}
use Rattle.page_text.specs.declared.Mark.{Mark}
use Rattle.page_text.specs.declared.TextFault.{TextFault}
use Rattle.page_text.specs.declared.TextFault.TheVariants.{BadBytes, BadChar}
use Rattle.page_text.specs.declared.fronts.Front.{Front}
use Rattle.page_text.specs.declared.fronts.Front.TheVariants.{Allowed, Banned, Part, Ill}
use Rattle.page_text.proofs.Pieces.{decoded-more}

-- ---- one step of a scan

scan_from-nil : (n : ℕ) (w : Bool) (at : ℕ) → scan_from n w at [] ≡ no_marks None []
unfolding scan_from
scan_from-nil zero w at = refl
scan_from-nil (suc n) w at = refl

-- more steps than bytes make no difference
scan_from-same : (n m : ℕ) (w : Bool) (at : ℕ) (bs : List ℕ) → length bs ≤ n → length bs ≤ m → scan_from n w at bs ≡ scan_from m w at bs
unfolding scan_from
scan_from-same zero m w at [] a b = sym (scan_from-nil m w at)
scan_from-same zero m w at (x ∷ xs) a b = absurd (omega arith)
scan_from-same (suc n) zero w at [] a b = scan_from-nil (suc n) w at
scan_from-same (suc n) zero w at (x ∷ xs) a b = absurd (omega arith)
scan_from-same (suc n) (suc m) w at [] a b = refl
scan_from-same (suc n) (suc m) w at (x ∷ xs) a b =
    let s = (decoded (x ∷ xs)).size in
    let bounds = piece-bounds (x ∷ xs) (omega arith) in
    let left = length-drop s (x ∷ xs) in
    ap (λ rest. scan_on w at (x ∷ xs) (front (x ∷ xs)) rest) (scan_from-same n m w (at + s) (drop s (x ∷ xs)) (omega arith) (omega arith))

pub scan-nil : (w : Bool) (at : ℕ) → scan w at [] ≡ no_marks None []
scan-nil w at = scan_from-nil 0 w at

-- what is read behind the front
abbrev pub beyond : Bool → ℕ → List ℕ → Scan
beyond w at bs = scan w (at + (decoded bs).size) (drop (decoded bs).size bs)

pub scan-step : (w : Bool) (at : ℕ) (bs : List ℕ) → 0 < length bs → scan w at bs ≡ scan_on w at bs (front bs) (beyond w at bs)
unfolding scan_from
scan-step w at [] h = absurd (omega arith)
scan-step w at (x ∷ xs) h =
    let s = (decoded (x ∷ xs)).size in
    let bounds = piece-bounds (x ∷ xs) (omega arith) in
    let left = length-drop s (x ∷ xs) in
    ap (λ rest. scan_on w at (x ∷ xs) (front (x ∷ xs)) rest)
    (scan_from-same (length xs) (length (drop s (x ∷ xs))) w (at + s) (drop s (x ∷ xs)) (omega arith) (omega arith))

-- the same, at a front that is known
pub scan-front : (w : Bool) (at : ℕ) (bs : List ℕ) (f : Front) → 0 < length bs → front bs ≡ f → scan w at bs ≡ scan_on w at bs f (beyond w at bs)
scan-front w at bs f h e = scan-step w at bs h ∙ ap (λ g. scan_on w at bs g (beyond w at bs)) e

-- ---- more bytes behind a front

middle : (a b c : Bool) → b ≡ false → (a && b && c) ≡ false
middle true b c e = rw e refl
middle false b c e = refl

apart : (m n : ℕ) → m < n → (m == n) ≡ false
apart m n h = grind (arith, nat_tests)

-- more bytes don't make it the front of a character
not-part : (v xs : List ℕ) → 0 < length v → decoded (v ++ xs) ≡ decoded v → is_part v ≡ false → is_part (v ++ xs) ≡ false
not-part v [] pos same out = subst (λ bs. is_part bs ≡ false) (sym (append-nil v)) out
not-part v (x ∷ xs) pos same out =
    let b = piece-bounds v pos in
    let l = length-append v (x ∷ xs) in
    let size : (decoded (v ++ x ∷ xs)).size ≡ (decoded v).size = ap (λ d. d.size) same in
    middle (nat_lt (length (v ++ x ∷ xs)) 4) ((decoded (v ++ x ∷ xs)).size == length (v ++ x ∷ xs))
    (nat_le 0xC2 (slice_index (v ++ x ∷ xs) 0) && nat_le (slice_index (v ++ x ∷ xs) 0) 0xF4)
    (apart (decoded (v ++ x ∷ xs)).size (length (v ++ x ∷ xs)) (omega arith))

front-more-on : (o : Option ℕ) (v w : List ℕ) → (front_on o v ≢ Part → is_part v ≡ false → is_part w ≡ false) → front_on o v ≢ Part → front_on o w ≡ front_on o v
front-more-on (Some c) v w keeps whole = refl
front-more-on None v w keeps whole = (elim (is_part v) as (λ p. is_part v ≡ p → front_on None w ≡ cond p Part Ill) [
  | true ↦ λ p. absurd (whole (ap (λ t. cond t Part Ill) p))
  | false ↦ λ p. ap (λ t. cond t Part Ill) (keeps whole p)
]) refl ∙ refl

-- what is more than the first bytes of a character stands at the front of more bytes too
pub front-more : (v xs : List ℕ) → 0 < length v → front v ≢ Part → front (v ++ xs) ≡ front v
front-more v xs pos whole =
    let same = decoded-more v xs pos whole in
    ap (λ d. front_on d.char (v ++ xs)) same
    ∙ front-more-on (decoded v).char v (v ++ xs) (λ w p. not-part v xs pos same p) whole

-- ---- a scan goes on

abbrev pub then_on : Option TextFault → Scan → Scan → Scan
then_on (Some f) s t = s
then_on None s t = record { marks = s.marks ++ t.marks; stop = t.stop; part = t.part }

-- the scan of bytes that end at this offset, and of more: a break ends it
abbrev pub then : Scan → ℕ → List ℕ → Scan
then s size b = then_on s.stop s (scan false (size - length s.part) (s.part ++ b))

then-cons : (o : Option TextFault) (m : Mark) (s t : Scan) → record (then_on o s t) { marks = m ∷ (then_on o s t).marks } ≡ then_on o (record s { marks = m ∷ s.marks }) t
then-cons (Some f) m s t = refl
then-cons None m s t = refl

abbrev pub Joins : ℕ → List ℕ → List ℕ → Type 0
Joins at v b = scan false at (v ++ b) ≡ then (scan false at v) (at + length v) b

joins-nil : (at : ℕ) (b : List ℕ) → Joins at [] b
joins-nil at b =
    let start : at + 0 - 0 ≡ at = omega arith in
    ap (λ k. then_on None (no_marks None []) (scan false k b)) (sym start) ∙ ap (λ s. then s (at + 0) b) (sym (scan-nil false at))

joins-part : (at : ℕ) (v b : List ℕ) → 0 < length v → front v ≡ Part → Joins at v b
joins-part at v b pos e =
    let start : at + length v - length v ≡ at = omega arith in
    ap (λ k. then_on None (no_marks None v) (scan false k (v ++ b))) (sym start)
    ∙ ap (λ s. then s (at + length v) b) (sym (scan-front false at v Part pos e))

joins-stop : (at : ℕ) (v b : List ℕ) (f : Front) (fault : TextFault) → 0 < length v → front v ≡ f → f ≢ Part
    → ((bs : List ℕ) (rest : Scan) → scan_on false at bs f rest ≡ no_marks (Some fault) []) → Joins at v b
joins-stop at v b f fault pos e whole stops =
    let same = front-more v b pos (λ p. whole (sym e ∙ p)) in
    let long = length-append v b in
    scan-front false at (v ++ b) f (omega arith) (same ∙ e) ∙ stops (v ++ b) (beyond false at (v ++ b))
    ∙ ap (λ s. then s (at + length v) b) (sym (scan-front false at v f pos e ∙ stops v (beyond false at v)))

pub scan-append : (n at : ℕ) (v b : List ℕ) → length v ≤ n → Joins at v b
scan-append n at [] b m = joins-nil at b
scan-append zero at (x ∷ v) b m = absurd (omega arith)
scan-append (suc n) at (x ∷ v) b m =
    let w = x ∷ v in
    let pos : 0 < length w = omega arith in
    let long = length-append w b in
    (elim (front w) as (λ f. front w ≡ f → Joins at w b) [
      | Allowed c ↦ λ e.
          let whole : front w ≢ Part = λ p. let clash : Allowed c ≡ Part = sym e ∙ p in absurd (cc (clash)) in
          let same = decoded-more w b pos whole in
          let bounds = piece-bounds w pos in
          let k = (decoded w).size in
          let left = length-drop k w in
          let cut = drop-append-le k w b (omega arith) in
          let next = scan-append n (at + k) (drop k w) b (omega arith) in
          let place : at + k + length (drop k w) ≡ at + length w = omega arith in
          let rest : beyond false at (w ++ b) ≡ then (beyond false at w) (at + length w) b =
          ap (λ d. scan false (at + d.size) (drop d.size (w ++ b))) same ∙ ap (λ bs. scan false (at + k) bs) cut ∙ next
          ∙ ap (λ size. then (beyond false at w) size b) place in
          scan-front false at (w ++ b) (Allowed c) (omega arith) (front-more w b pos whole ∙ e)
          ∙ ap {A = Scan} (λ s. record s { marks = mark c at ∷ s.marks }) rest
          ∙ then-cons (beyond false at w).stop (mark c at) (beyond false at w) _
          ∙ ap (λ s. then s (at + length w) b) (sym (scan-front false at w (Allowed c) pos e))
      | Banned ↦ λ e. joins-stop at w b Banned (BadChar at) pos e (λ p. absurd (cc)) (λ bs rest. refl)
      | Part ↦ λ e. joins-part at w b pos e
      | Ill ↦ λ e. joins-stop at w b Ill (BadBytes at) pos e (λ p. absurd (cc)) (λ bs rest. refl)
    ]) refl

-- ---- what waits at the end of a scan

pub part-within : (n at : ℕ) (bs : List ℕ) → length bs ≤ n → length (scan false at bs).part ≤ length bs
part-within n at [] m = subst (λ s. length s.part ≤ 0) (sym (scan-nil false at)) (omega arith)
part-within zero at (x ∷ bs) m = absurd (omega arith)
part-within (suc n) at (x ∷ bs) m =
    let w = x ∷ bs in
    let pos : 0 < length w = omega arith in
    (elim (front w) as (λ f. front w ≡ f → length (scan false at w).part ≤ length w) [
      | Allowed c ↦ λ e.
          let bounds = piece-bounds w pos in
          let k = (decoded w).size in
          let left = length-drop k w in
          let next = part-within n (at + k) (drop k w) (omega arith) in
          subst (λ s. length s.part ≤ length w) (sym (scan-front false at w (Allowed c) pos e)) (omega arith)
      | Banned ↦ λ e. subst (λ s. length s.part ≤ length w) (sym (scan-front false at w Banned pos e)) (omega arith)
      | Part ↦ λ e. subst (λ s. length s.part ≤ length w) (sym (scan-front false at w Part pos e)) (omega arith)
      | Ill ↦ λ e. subst (λ s. length s.part ≤ length w) (sym (scan-front false at w Ill pos e)) (omega arith)
    ]) refl

-- ---- a page that ends

abbrev pub ended_on : Option TextFault → ℕ → List ℕ → Option TextFault
ended_on (Some f) size part = Some f
ended_on None size [] = None
ended_on None size (x ∷ xs) = Some (BadBytes (size - length (x ∷ xs)))

-- the page that ends at this offset
abbrev pub ended : Scan → ℕ → Scan
ended s size = record { marks = s.marks; stop = ended_on s.stop size s.part; part = [] }

abbrev pub Ends : ℕ → List ℕ → Type 0
Ends at bs = scan true at bs ≡ ended (scan false at bs) (at + length bs)

ends-stop : (at : ℕ) (v : List ℕ) (f : Front) (fault : TextFault) → 0 < length v → front v ≡ f
    → ((w : Bool) (rest : Scan) → scan_on w at v f rest ≡ no_marks (Some fault) []) → Ends at v
ends-stop at v f fault pos e stops =
    scan-front true at v f pos e ∙ stops true (beyond true at v)
    ∙ ap (λ s. ended s (at + length v)) (sym (scan-front false at v f pos e ∙ stops false (beyond false at v)))

pub scan-ended : (n at : ℕ) (bs : List ℕ) → length bs ≤ n → Ends at bs
scan-ended n at [] m = scan-nil true at ∙ ap (λ s. ended s (at + 0)) (sym (scan-nil false at))
scan-ended zero at (x ∷ bs) m = absurd (omega arith)
scan-ended (suc n) at (x ∷ bs) m =
    let w = x ∷ bs in
    let pos : 0 < length w = omega arith in
    (elim (front w) as (λ f. front w ≡ f → Ends at w) [
      | Allowed c ↦ λ e.
          let bounds = piece-bounds w pos in
          let k = (decoded w).size in
          let left = length-drop k w in
          let next = scan-ended n (at + k) (drop k w) (omega arith) in
          let place : at + k + length (drop k w) ≡ at + length w = omega arith in
          scan-front true at w (Allowed c) pos e
          ∙ ap {A = Scan} (λ s. record s { marks = mark c at ∷ s.marks }) (next ∙ ap (λ size. ended (beyond false at w) size) place)
          ∙ ap (λ s. ended s (at + length w)) (sym (scan-front false at w (Allowed c) pos e))
      | Banned ↦ λ e. ends-stop at w Banned (BadChar at) pos e (λ q rest. refl)
      | Part ↦ λ e.
          let start : at + length w - length w ≡ at = omega arith in
          scan-front true at w Part pos e ∙ ap (λ k. no_marks (Some (BadBytes k)) []) (sym start)
          ∙ ap (λ s. ended s (at + length w)) (sym (scan-front false at w Part pos e))
      | Ill ↦ λ e. ends-stop at w Ill (BadBytes at) pos e (λ q rest. refl)
    ]) refl
