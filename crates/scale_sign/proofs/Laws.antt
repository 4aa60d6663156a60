-- The text that is written is the number, and there is one.
use Rattle.std.proofs.Common.{◌≡◌, ℕ, ℤ, pos, negsuc, Bool, ◌+◌, ◌-◌, ◌*◌, ◌^◌, ◌<◌, ◌==◌, ◌&&◌, not, true, false, IsTrue, ◌↔◌, ◌≢◌, ◌⊎◌, List, [], ◌∷◌, ◌++◌, length, take, drop, replicate, zero, suc, refl, sym, ap, subst, ◌∙◌, inl, inr, arith, length-append, length-drop, append_assoc}
use Rattle.std.proofs.Math.Nat.{mul_assoc, mul_right_comm, mul_comm, mul-lt-mul_of_pos_right, add-zero}
use Rattle.std.proofs.lemmas.List.{length-replicate, append-nil, take-append-drop, take_all, drop_all, nil_from_length}
use Rattle.std.proofs.lemmas.Nat.{same_from_place, pow-add}
use Rattle.std.proofs.lemmas.Bool.{cases_lt, cases_eq, eq-eqb, ne_eqb}
use Rattle.ix_base.specs.Decimals.{AreDigits, number_in, whole, behind, IsWholePart, IsFraction, front_of, back_of, pointed, IsUnsigned, IsCanonical}
use Rattle.scale_sign.specs.Scaled.{signed, IsMoved, IsNumber}
use Rattle.scale_sign.specs.WrittenDigits.{strip, cut, or_zero, written, front_by, back_by, moved_decimal}
use Rattle.scale_sign.proofs.Values.{number_in-append, number_in-below, number_in-lead, number_in-pad, number_in-strip, number_in-or_zero, cut-zeros, pow_pos-ten}
use Rattle.scale_sign.proofs.Digits.{AreDigits-append, AreDigits-left, AreDigits-right, AreDigits-zeros, AreDigits-take, AreDigits-drop, IsWholePart-strip, IsFraction-cut, same_whole, same_fraction, front-digits, back-digits, front-alone, back-alone, front-pointed, back-pointed}

-- the canonical decimal
abbrev pub body_of : List ℕ → ℤ → List ℕ
body_of digits scale = moved_decimal scale (front_of digits) (back_of digits)

-- the same with its sign
abbrev pub number : List ℕ → ℤ → Bool → List ℕ
number digits scale negative = signed (negative && not (whole digits == 0)) (body_of digits scale)

-- the parts of an unsigned decimal are digits
parts-spelled : (text front back : List ℕ) → AreDigits (front ++ back) → (text ≡ front ++ 46 ∷ back) ⊎ ((text ≡ front) × (back ≡ [])) → (front_of text ≡ front) × (back_of text ≡ back)
parts-spelled text f b d (inl e) = let l = AreDigits-left f b d in (rw e (front-digits f b l), rw e (back-digits f b l))
parts-spelled text f b d (inr e) = let l = AreDigits-left f b d in (rw (e.0) (front-alone f l), rw (e.0, e.1) (back-alone f l))

pub parts-digits : (text : List ℕ) → IsUnsigned text → AreDigits (front_of text ++ back_of text)
parts-digits text u = let p = parts-spelled text u.front u.back u.digits u.spelled in rw (p.0, p.1) u.digits

pub digits-at : (text f b : List ℕ) → IsUnsigned text → f ≡ front_of text → b ≡ back_of text → AreDigits (f ++ b)
digits-at text f b u e g = rw (e, g) (parts-digits text u)

parts-back : (t f b : List ℕ) → (front_of t ≡ f) × (back_of t ≡ b) → f ++ b ≢ [] → front_of t ++ back_of t ≢ []
parts-back t f b p some = rw (p.0, p.1) some

pub parts-some : (text : List ℕ) → IsUnsigned text → front_of text ++ back_of text ≢ []
parts-some text u = parts-back text u.front u.back (parts-spelled text u.front u.back u.digits u.spelled) u.some

spelled-more : (c : ℕ) (cs f b : List ℕ) → (cs ≡ f ++ 46 ∷ b) ⊎ ((cs ≡ f) × (b ≡ [])) → (c ∷ cs ≡ c ∷ f ++ 46 ∷ b) ⊎ ((c ∷ cs ≡ c ∷ f) × (b ≡ []))
spelled-more c cs f b (inl e) = inl (ap (λ v. c ∷ v) e)
spelled-more c cs f b (inr e) = inr (ap (λ v. c ∷ v) e.0, e.1)

pub parts-spell : (text : List ℕ) → (text ≡ front_of text ++ 46 ∷ back_of text) ⊎ ((text ≡ front_of text) × (back_of text ≡ []))
parts-spell [] = inr (refl, refl)
parts-spell (c ∷ cs) = elim (cases_eq c 46) [
  | inl e ↦ rw (eq-eqb c 46 e) (inl (ap (λ v. v ∷ cs) e))
  | inr n ↦ rw (ne_eqb c 46 n) (spelled-more c cs (front_of cs) (back_of cs) (parts-spell cs))
]

pub unsigned-from : (text : List ℕ) → AreDigits (front_of text ++ back_of text) → front_of text ++ back_of text ≢ [] → IsUnsigned text
unsigned-from text d n = record { front = front_of text; back = back_of text; some = n; digits = d; spelled = parts-spell text }

-- any digits in front of and behind a point are written canonically, and the number stays
pub written-canonical : (f b : List ℕ) → AreDigits f → AreDigits b → IsCanonical (written f b)
written-canonical f b d e = record { front = or_zero (strip f); back = cut b; leads = IsWholePart-strip f d; ends = IsFraction-cut b e; spelled = refl }

pub whole-digits : (f : List ℕ) → IsWholePart f → AreDigits f
whole-digits [] w = elim w [ ]
whole-digits (c ∷ cs) w = w.0

pub whole-parts : (f b : List ℕ) → AreDigits f → (whole (f ++ pointed b) ≡ number_in (f ++ b)) × (behind (f ++ pointed b) ≡ length b)
whole-parts f b d = (rw (front-pointed f b d, back-pointed f b d) refl, rw (back-pointed f b d) refl)

-- what is written has the number, but for the zeros that were cut
pub written-number : (f b : List ℕ) → AreDigits f → (t : ℕ) × (whole (written f b) * 10 ^ t ≡ number_in (f ++ b)) × (length b ≡ behind (written f b) + t)
written-number f b d =
    let w = whole-digits _ (IsWholePart-strip f d) in
    let p = whole-parts (or_zero (strip f)) (cut b) w in
    let z = cut-zeros b in
    let value : number_in (or_zero (strip f) ++ cut b) ≡ number_in (f ++ cut b) = number_in-or_zero (strip f) (cut b) ∙ number_in-strip f (cut b) in
    let padded : number_in (f ++ cut b) * 10 ^ z.0 ≡ number_in (f ++ b) = sym (number_in-pad (f ++ cut b) z.0) ∙ ap number_in (append_assoc f (cut b) (replicate z.0 48)) ∙ ap (λ ys. number_in (f ++ ys)) (sym z.1) in
    (z.0, rw (p.0, value) padded, rw (p.1) (omega (arith, ap length z.1, length-append (cut b) (replicate z.0 48), length-replicate {A = ℕ} z.0 48)))

scaled-up : (n m k s j t : ℕ) → m * 10 ^ t ≡ n * 10 ^ (s - k) → k - s ≡ j + t → m * 10 ^ k ≡ n * 10 ^ (j + s)
scaled-up n m k s j t e f = elim (cases_lt k s) [
  | inl h ↦
      let z : t ≡ 0 = omega arith in
      let y : j ≡ 0 = omega arith in
      let g : m * 10 ^ 0 ≡ n * 10 ^ (s - k) = rw z at e in
      let q : m ≡ n * 10 ^ (s - k) = omega arith in
      let w : (s - k) + k ≡ j + s = omega arith in
      let p : 10 ^ (j + s) ≡ 10 ^ (s - k) * 10 ^ k = ap (λ x. 10 ^ x) (sym w) ∙ pow-add 10 (s - k) k in
      rw (p, q) (mul_assoc n (10 ^ (s - k)) (10 ^ k))
  | inr h ↦
      let z : s - k ≡ 0 = omega arith in
      let g : m * 10 ^ t ≡ n * 10 ^ 0 = rw z at e in
      let q : n ≡ m * 10 ^ t = omega arith in
      let w : k ≡ t + (j + s) = omega arith in
      let p : 10 ^ k ≡ 10 ^ t * 10 ^ (j + s) = ap (λ x. 10 ^ x) w ∙ pow-add 10 t (j + s) in
      rw (p, q) (sym (mul_assoc m (10 ^ t) (10 ^ (j + s))))
]

scaled-down : (n m k s j t : ℕ) → m * 10 ^ t ≡ n → k + s ≡ j + t → m * 10 ^ (k + s) ≡ n * 10 ^ j
scaled-down n m k s j t e f =
    let w : k + s ≡ t + j = omega arith in
    let p : 10 ^ (k + s) ≡ 10 ^ t * 10 ^ j = ap (λ x. 10 ^ x) w ∙ pow-add 10 t j in
    rw (p, ← e) (sym (mul_assoc m (10 ^ t) (10 ^ j)))

-- moving the point keeps digits digits
front_by-digits : (scale : ℤ) (f b : List ℕ) → AreDigits f → AreDigits b → AreDigits (front_by scale f b)
front_by-digits (pos s) f b d e = AreDigits-append _ _ (AreDigits-append _ _ d (AreDigits-take s b e)) (AreDigits-zeros (s - length b))
front_by-digits (negsuc s) f b d e = AreDigits-take _ f d

back_by-digits : (scale : ℤ) (f b : List ℕ) → AreDigits f → AreDigits b → AreDigits (back_by scale f b)
back_by-digits (pos s) f b d e = AreDigits-drop s b e
back_by-digits (negsuc s) f b d e =
    let kept = length f - (s + 1) in
    AreDigits-append (replicate ((s + 1) - length f) 48) (drop kept f ++ b) (AreDigits-zeros ((s + 1) - length f))
    (AreDigits-append (drop kept f) b (AreDigits-drop kept f d) e)

-- the number after the point has moved, without the point
raised-number : (s : ℕ) (f b : List ℕ) → number_in (front_by (pos s) f b ++ back_by (pos s) f b) ≡ number_in (f ++ b) * 10 ^ (s - length b)
raised-number s f b = elim (cases_lt s (length b)) [
  | inl h ↦
      let z : s - length b ≡ 0 = omega arith in
      let c : take s b ++ drop s b ≡ b = take-append-drop s b in
      rw (z, append-nil (f ++ take s b), append_assoc f (take s b) (drop s b), c) (omega arith)
  | inr h ↦
      rw (take_all s b h, drop_all s b h, append-nil ((f ++ b) ++ replicate (s - length b) 48)) (number_in-pad (f ++ b) (s - length b))
]

lowered-number : (s : ℕ) (f b : List ℕ) → number_in (front_by (negsuc s) f b ++ back_by (negsuc s) f b) ≡ number_in (f ++ b)
lowered-number s f b = elim (cases_lt (length f) (s + 1)) [
  | inl h ↦
      let z : length f - (s + 1) ≡ 0 = omega arith in
      rw z (number_in-lead ((s + 1) - length f) (f ++ b))
  | inr h ↦
      let z : (s + 1) - length f ≡ 0 = omega arith in
      let c : take (length f - (s + 1)) f ++ drop (length f - (s + 1)) f ≡ f = take-append-drop (length f - (s + 1)) f in
      rw (z, ← append_assoc (take (length f - (s + 1)) f) (drop (length f - (s + 1)) f) b, c) refl
]

lowered-behind : (s : ℕ) (f b : List ℕ) → length (back_by (negsuc s) f b) ≡ length b + (s + 1)
lowered-behind s f b =
    omega (
      arith,
      length-append (replicate ((s + 1) - length f) 48) (drop (length f - (s + 1)) f ++ b),
      length-append (drop (length f - (s + 1)) f) b,
      length-replicate {A = ℕ} ((s + 1) - length f) 48,
      length-drop (length f - (s + 1)) f,
    )

body-moved : (scale : ℤ) (text : List ℕ) → AreDigits (front_of text) → AreDigits (back_of text) → IsMoved text scale (body_of text scale)
body-moved (pos s) text d e =
    let f = front_of text in let b = back_of text in
    let w = written-number (front_by (pos s) f b) (back_by (pos s) f b) (front_by-digits (pos s) f b d e) in
    scaled-up (whole text) (whole (body_of text (pos s))) (behind text) s (behind (body_of text (pos s))) w.0 (w.1 ∙ raised-number s f b) (omega (arith, w.2, length-drop s b))
body-moved (negsuc s) text d e =
    let f = front_of text in let b = back_of text in
    let w = written-number (front_by (negsuc s) f b) (back_by (negsuc s) f b) (front_by-digits (negsuc s) f b d e) in
    scaled-down (whole text) (whole (body_of text (negsuc s))) (behind text) (s + 1) (behind (body_of text (negsuc s))) w.0 (w.1 ∙ lowered-number s f b) (omega (arith, w.2, lowered-behind s f b))

-- what the code writes is the number
pub number-is : (text : List ℕ) (scale : ℤ) (negative : Bool) → IsUnsigned text → IsNumber text scale negative (number text scale negative)
number-is text scale negative u =
    let d = parts-digits text u in
    let l = AreDigits-left (front_of text) (back_of text) d in
    let r = AreDigits-right (front_of text) (back_of text) d in
    record {
      body = body_of text scale;
      canonical = written-canonical _ _ (front_by-digits scale _ _ l r) (back_by-digits scale _ _ l r);
      moved = body-moved scale text l r;
      spelled = refl;
    }

below_times : (a p q : ℕ) → a < p → 0 < q → a * q < p * q
below_times a p q h z = mul-lt-mul_of_pos_right h z

cancelled : (a b p : ℕ) → 0 < p → a * p ≡ b * p → a ≡ b
cancelled a b p h e = (same_from_place a 0 b 0 p h h (rw (add-zero (a * p), add-zero (b * p)) e)).0

scaled_in : (fv bv p q : ℕ) → (fv * p + bv) * q ≡ fv * (p * q) + bv * q
scaled_in fv bv p q = grind arith

-- two numbers of a whole part and a fraction agree in both
parts-agree : (f b g c : List ℕ) → AreDigits b → AreDigits c → number_in (f ++ b) * 10 ^ length c ≡ number_in (g ++ c) * 10 ^ length b →
    (number_in f ≡ number_in g) × (number_in b * 10 ^ length c ≡ number_in c * 10 ^ length b)
parts-agree f b g c d e n =
    let w = 10 ^ length b * 10 ^ length c in
    let x : number_in (f ++ b) * 10 ^ length c ≡ number_in f * (10 ^ length b * 10 ^ length c) + number_in b * 10 ^ length c =
    ap (λ v. v * 10 ^ length c) (number_in-append f b) ∙ scaled_in (number_in f) (number_in b) (10 ^ length b) (10 ^ length c) in
    let y : number_in (g ++ c) * 10 ^ length b ≡ number_in g * (10 ^ length b * 10 ^ length c) + number_in c * 10 ^ length b =
    ap (λ v. v * 10 ^ length b) (number_in-append g c) ∙ scaled_in (number_in g) (number_in c) (10 ^ length c) (10 ^ length b) ∙ ap (λ v. number_in g * v + number_in c * 10 ^ length b) (mul_comm (10 ^ length c) (10 ^ length b)) in
    let low : number_in b * 10 ^ length c < 10 ^ length b * 10 ^ length c = below_times _ _ _ (number_in-below b d) (pow_pos-ten (length c)) in
    let also : number_in c * 10 ^ length b < 10 ^ length b * 10 ^ length c = rw (mul_comm (10 ^ length b) (10 ^ length c)) (below_times _ _ _ (number_in-below c e) (pow_pos-ten (length b))) in
    same_from_place (number_in f) (number_in b * 10 ^ length c) (number_in g) (number_in c * 10 ^ length b) (10 ^ length b * 10 ^ length c) low also (sym x ∙ n ∙ y)

canonical-parts : (f b g c : List ℕ) → IsWholePart f → IsFraction b → IsWholePart g → IsFraction c → number_in (f ++ b) * 10 ^ length c ≡ number_in (g ++ c) * 10 ^ length b →
    f ++ pointed b ≡ g ++ pointed c
canonical-parts f b g c wf fb wg fc n =
    let p = parts-agree f b g c fb.0 fc.0 n in
    let x = same_whole f g (whole-digits f wf) (whole-digits g wg) wf wg p.0 in
    let y = same_fraction b c fb fc p.1 in
    cc

-- there is one canonical decimal of a number
pub one_canonical : (a b : List ℕ) → IsCanonical a → IsCanonical b → whole a * 10 ^ behind b ≡ whole b * 10 ^ behind a → a ≡ b
one_canonical a b p q e =
    let x = whole-parts p.front p.back (whole-digits p.front p.leads) in
    let y = whole-parts q.front q.back (whole-digits q.front q.leads) in
    let n : whole (p.front ++ pointed p.back) * 10 ^ behind (q.front ++ pointed q.back) ≡ whole (q.front ++ pointed q.back) * 10 ^ behind (p.front ++ pointed p.back) =
    subst (λ v. whole v * 10 ^ behind (q.front ++ pointed q.back) ≡ whole (q.front ++ pointed q.back) * 10 ^ behind v) p.spelled
    (subst (λ v. whole a * 10 ^ behind v ≡ whole v * 10 ^ behind a) q.spelled e) in
    let k : number_in (p.front ++ p.back) * 10 ^ length q.back ≡ number_in (q.front ++ q.back) * 10 ^ length p.back = rw (← x.0, ← x.1, ← y.0, ← y.1) n in
    p.spelled ∙ canonical-parts p.front p.back q.front q.back p.leads p.ends q.leads q.ends k ∙ sym q.spelled

-- two decimals with one number that has been moved agree
moved-agree : (m j o i n d s : ℕ) → m * 10 ^ d ≡ n * 10 ^ (j + s) → o * 10 ^ d ≡ n * 10 ^ (i + s) → m * 10 ^ i ≡ o * 10 ^ j
moved-agree m j o i n d s e f =
    let a : (m * 10 ^ i) * 10 ^ d ≡ (n * 10 ^ (j + s)) * 10 ^ i = mul_right_comm m (10 ^ i) (10 ^ d) ∙ ap (λ v. v * 10 ^ i) e in
    let b : (o * 10 ^ j) * 10 ^ d ≡ (n * 10 ^ (i + s)) * 10 ^ j = mul_right_comm o (10 ^ j) (10 ^ d) ∙ ap (λ v. v * 10 ^ j) f in
    let p : 10 ^ (j + s) * 10 ^ i ≡ 10 ^ (i + s) * 10 ^ j = sym (pow-add 10 (j + s) i) ∙ ap (λ x. 10 ^ x) (let w : j + s + i ≡ i + s + j = omega arith in w) ∙ pow-add 10 (i + s) j in
    let q : (n * 10 ^ (j + s)) * 10 ^ i ≡ (n * 10 ^ (i + s)) * 10 ^ j = mul_assoc n (10 ^ (j + s)) (10 ^ i) ∙ ap (λ v. n * v) p ∙ sym (mul_assoc n (10 ^ (i + s)) (10 ^ j)) in
    cancelled (m * 10 ^ i) (o * 10 ^ j) (10 ^ d) (pow_pos-ten d) (a ∙ q ∙ sym b)

one_body : (digits : List ℕ) (scale : ℤ) (a b : List ℕ) → IsCanonical a → IsCanonical b → IsMoved digits scale a → IsMoved digits scale b → a ≡ b
one_body digits (pos s) a b p q e f = one_canonical a b p q (moved-agree (whole a) (behind a) (whole b) (behind b) (whole digits) (behind digits) s e f)
one_body digits (negsuc s) a b p q e f = one_canonical a b p q (moved-agree (whole a) (behind a) (whole b) (behind b) (whole digits) (behind digits + (s + 1)) 0 (rw (add-zero (behind a)) e) (rw (add-zero (behind b)) f))

pub one_number : (digits : List ℕ) (scale : ℤ) (negative : Bool) (s t : List ℕ) → IsNumber digits scale negative s → IsNumber digits scale negative t → s ≡ t
one_number digits scale negative s t p q =
    p.spelled ∙ ap (λ v. signed (negative && not (whole digits == 0)) v) (one_body digits scale p.body q.body p.canonical q.canonical p.moved q.moved) ∙ sym q.spelled

-- the number of joined digits is something where that of a part is
pub some-front : (f b : List ℕ) → 0 < number_in f → number_in (f ++ b) ≢ 0
some-front f b some e =
    let p = pow_pos-ten (length b) in
    let m = below_times 0 (number_in f) (10 ^ length b) some p in
    absurd (omega (arith, number_in-append f b))

pub none-front : (f b : List ℕ) → (0 < number_in f → ⊥) → number_in (f ++ b) ≡ number_in b
none-front f b none =
    let z : number_in f ≡ 0 = omega arith in
    rw (number_in-append f b, z) (omega arith)

sign-some : (negative : Bool) (n : ℕ) (r : Bool) → negative ≡ true → r ≡ true → n ≢ 0 → r ≡ (negative && not (n == 0))
sign-some negative n r e f g = rw (e, f, ne_eqb n 0 g) refl

sign-of : (negative : Bool) (n : ℕ) (r : Bool) → negative ≡ true → IsTrue r ↔ (0 < n) → r ≡ (negative && not (n == 0))
sign-of negative n true e h = let p : 0 < n = h.0 refl in rw (e, ne_eqb n 0 (λ z. omega arith)) refl
sign-of negative zero false e h = rw e refl
sign-of negative (suc n) false e h = let k : IsTrue false = h.1 (omega arith) in absurd (let no : false ≡ true → ⊥ = λ w. cc in no k)

pub sign-front : (negative : Bool) (f b : List ℕ) (r : Bool) → negative ≡ true → r ≡ true → IsTrue r ↔ (0 < number_in f) → r ≡ (negative && not (number_in (f ++ b) == 0))
sign-front negative f b r e t h = sign-some negative (number_in (f ++ b)) r e t (some-front f b (h.0 t))

pub sign-back : (negative : Bool) (f b : List ℕ) (q r : Bool) → negative ≡ true → q ≡ false → IsTrue q ↔ (0 < number_in f) → IsTrue r ↔ (0 < number_in b) → r ≡ (negative && not (number_in (f ++ b) == 0))
sign-back negative f b q r e t h k =
    let n = none-front f b (λ v. let k : q ≡ true = h.1 v in cc) in
    rw n (sign-of negative (number_in b) r e k)

signed-append : (sign : Bool) (body : List ℕ) → signed sign [] ++ body ≡ signed sign body
signed-append true body = refl
signed-append false body = refl

-- what was written after the sign is the number
pub signed-is : (text f b : List ℕ) (scale : ℤ) (negative sign : Bool) (start all : List ℕ) → IsUnsigned text → f ≡ front_of text → b ≡ back_of text →
    sign ≡ (negative && not (number_in (f ++ b) == 0)) → start ≡ signed sign [] → all ≡ start ++ moved_decimal scale f b → IsNumber text scale negative all
signed-is text f b scale negative sign start all u ef eb es et ea =
    let k = number-is text scale negative u in
    let s : sign ≡ (negative && not (whole text == 0)) = es ∙ rw (ef, eb) refl in
    let w : all ≡ number text scale negative = ea ∙ rw (et, s, ef, eb) (signed-append (negative && not (whole text == 0)) (body_of text scale)) in
    subst (λ v. IsNumber text scale negative v) (sym w) k

-- there is a number at every scale
pub some_number : (digits : List ℕ) (scale : ℤ) (negative : Bool) → IsUnsigned digits → (text : List ℕ) × IsNumber digits scale negative text
some_number digits scale negative u = (number digits scale negative, number-is digits scale negative u)

-- the test of the parts tells an unsigned decimal
pub unsigned-test : (text f b : List ℕ) (r : Bool) → f ≡ front_of text → b ≡ back_of text → IsTrue r ↔ (AreDigits (f ++ b)) → length (f ++ b) ≢ 0 → IsTrue r ↔ IsUnsigned text
unsigned-test text f b r e g h n =
    (λ k. unsigned-from text (rw (← e, ← g) (h.0 k)) (λ z. n (rw (e, g, z) refl)), λ u. h.1 (digits-at text f b u e g))

-- where both parts are empty it is none
pub unsigned-empty : (text f b : List ℕ) → f ≡ front_of text → b ≡ back_of text → length (f ++ b) ≡ 0 → IsTrue false ↔ IsUnsigned text
unsigned-empty text f b e g n =
    (λ k. absurd (let no : false ≡ true → ⊥ = λ w. cc in no k), λ u. absurd (parts-some text u (nil_from_length _ (rw (← e, ← g) n))))
