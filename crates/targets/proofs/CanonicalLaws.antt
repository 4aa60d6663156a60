-- The texts of numbers and of integers in normal form pass the tests of canonical forms.
use Rattle.std.proofs.Common.{◌≡◌, ◌≢◌, ◌∙◌, ℕ, ℤ, pos, negsuc, Bool, true, false, not, ◌&&◌, ◌+◌, ◌-◌, ◌*◌, ◌^◌, ◌<◌, ◌≤◌, ◌==◌, List, [], ◌∷◌, ◌++◌, append-nil, ap, arith, codes, cond, length, refl, sym}
use Rattle.std.specs.Prelude.{◌||◌}
use Rattle.std.specs.List.{list_all}
use Rattle.std.proofs.lemmas.Bool.{and_from, and_parts, eq-eqb, eqb-true, le-leb, ne_eqb}
use Rattle.std.proofs.lemmas.Slice.Eq.{bytes_eq-Decides}
use Rattle.ix_base.specs.Decimals.{AreDigits, IsCanonical, IsFraction, IsWholePart, back_of, front_of, behind, number_in, pointed, whole}
use Rattle.ix_base.specs.Forms.{is_canonical_decimal, is_canonical_unsigned, is_digit, is_empty, is_fraction_part, is_integer, is_negative, is_normal_integer, is_whole_part, is_zero, integer_form, signed_digits, size_of, unsigned_of, without_zeros}
use Rattle.scale_sign.specs.Scaled.{IsMoved, IsNumber, signed}
use Rattle.scale_sign.proofs.Digits.{back-alone, back-pointed, digits-are, front-pointed}
use Rattle.scale_sign.proofs.Laws.{whole-digits}
use Rattle.scale_sign.proofs.Values.{number_in-some, pow_pos-ten}

digit-passes : (c : ℕ) → 48 ≤ c → c ≤ 57 → is_digit c ≡ true
digit-passes c low high = and_from _ _ (le-leb 48 c low) (le-leb c 57 high)

pub digits-pass : (cs : List ℕ) → AreDigits cs → list_all is_digit cs ≡ true
digits-pass [] d = refl
digits-pass (c ∷ cs) d = and_from _ _ (digit-passes c d.0 d.1) (digits-pass cs d.2)

other-passes : (c d : ℕ) → c ≢ d → not (c == d) ≡ true
other-passes c d n = ap not (ne_eqb c d n)

whole-passes : (f : List ℕ) → IsWholePart f → is_whole_part f ≡ true
whole-passes [] w = absurd w
whole-passes (c ∷ []) w = digit-passes c w.0.0 w.0.1
whole-passes (c ∷ d ∷ cs) w =
    let first : c ≢ 48 = λ e. (let none : d ∷ cs ≡ [] = w.1 e in cc) in
    and_from _ _ (and_from _ _ (digit-passes c w.0.0 w.0.1) (other-passes c 48 first)) (digits-pass (d ∷ cs) w.0.2)

fraction-passes : (b : List ℕ) → AreDigits b → ((rest : List ℕ) → b ≢ rest ++ 48 ∷ []) → is_fraction_part b ≡ true
fraction-passes [] d n = refl
fraction-passes (c ∷ []) d n = and_from _ _ (digit-passes c d.0 d.1) (other-passes c 48 (λ e. n [] (ap (λ x. x ∷ []) e)))
fraction-passes (c ∷ x ∷ cs) d n = and_from _ _ (digit-passes c d.0 d.1) (fraction-passes (x ∷ cs) d.2 (λ rest e. n (c ∷ rest) (ap (λ xs. c ∷ xs) e)))

-- a canonical decimal passes its test
pub canonical-passes : (text : List ℕ) → IsCanonical text → is_canonical_unsigned text ≡ true
canonical-passes text k =
    let digits = whole-digits k.front k.leads in
    let front : front_of text ≡ k.front = ap front_of k.spelled ∙ front-pointed k.front k.back digits in
    let back : back_of text ≡ k.back = ap back_of k.spelled ∙ back-pointed k.front k.back digits in
    let joined : text ≡ front_of text ++ pointed (back_of text) =
    k.spelled ∙ sym (ap (λ f. f ++ pointed (back_of text)) front ∙ ap (λ b. k.front ++ pointed b) back) in
    and_from _ _
    (and_from _ _ (ap is_whole_part front ∙ whole-passes k.front k.leads) (ap is_fraction_part back ∙ fraction-passes k.back k.ends.0 k.ends.1))
    ((bytes_eq-Decides text (front_of text ++ pointed (back_of text))).1 joined)

-- it begins with a digit
plain-passes : (f b text : List ℕ) → IsWholePart f → text ≡ f ++ pointed b → is_canonical_unsigned text ≡ true → is_canonical_decimal text ≡ true
plain-passes [] b text w e h = absurd w
plain-passes (c ∷ cs) b text w e h =
    let low = w.0.0 in
    let first : (c == 45) ≡ false = ne_eqb c 45 (λ k. omega arith) in
    let same : is_canonical_decimal (c ∷ (cs ++ pointed b)) ≡ is_canonical_unsigned (c ∷ (cs ++ pointed b)) = rw first refl in
    ap is_canonical_decimal e ∙ same ∙ sym (ap is_canonical_unsigned e) ∙ h

-- a canonical decimal with its sign, which zero doesn't have
pub signed-passes : (sign : Bool) (body : List ℕ) → IsCanonical body → (sign ≡ true → not (is_zero body) ≡ true) → is_canonical_decimal (signed sign body) ≡ true
signed-passes true body k some = and_from _ _ (canonical-passes body k) (some refl)
signed-passes false body k some = plain-passes k.front k.back body k.leads k.spelled (canonical-passes body k)

-- Numbers.

times-none : (a p : ℕ) → 0 < p → a * p ≡ 0 → a ≡ 0
times-none a p some e = grind arith

none-times : (a p : ℕ) → a ≡ 0 → a * p ≡ 0
none-times a p e = grind arith

-- where nothing is moved, nothing was there
moved-none : (digits : List ℕ) (scale : ℤ) (body : List ℕ) → IsMoved digits scale body → whole body ≡ 0 → whole digits ≡ 0
moved-none digits (pos s) body m z =
    let p = 10 ^ (behind body + s) in
    let e : whole digits * p ≡ 0 = sym m ∙ none-times (whole body) (10 ^ behind digits) z in
    times-none (whole digits) p (pow_pos-ten (behind body + s)) e
moved-none digits (negsuc s) body m z =
    let p = 10 ^ behind body in
    let e : whole digits * p ≡ 0 = sym m ∙ none-times (whole body) (10 ^ (behind digits + (s + 1))) z in
    times-none (whole digits) p (pow_pos-ten (behind body)) e

not-zero : (body : List ℕ) → (whole body ≡ 0 → ⊥) → not (is_zero body) ≡ true
not-zero body n = by (is_zero body) refl where
  by : (b : Bool) → is_zero body ≡ b → not b ≡ true
  by true e = absurd (n (ap whole ((bytes_eq-Decides body (codes "0")).0 e)))
  by false e = refl

sign-some : (negative : Bool) (n : ℕ) → (negative && not (n == 0)) ≡ true → n ≡ 0 → ⊥
sign-some negative n h z =
    let some : not (n == 0) ≡ true = (and_parts negative (not (n == 0)) h).1 in
    let none : not (n == 0) ≡ false = ap (λ (k : ℕ). not (k == 0)) z in
    let f : true ≡ false = sym some ∙ none in cc

-- so does a number
pub number-passes : (digits : List ℕ) (scale : ℤ) (negative : Bool) (text : List ℕ) → IsNumber digits scale negative text → is_canonical_decimal text ≡ true
number-passes digits scale negative text n =
    let sign = negative && not (whole digits == 0) in
    ap is_canonical_decimal n.spelled
    ∙ signed-passes sign n.body n.canonical
    (λ h. not-zero n.body (λ z. sign-some negative (whole digits) h (moved-none digits scale n.body n.moved z)))

-- Integers.

-- digits without the zeros in front are none, or don't begin with one
stripped : (cs : List ℕ) → AreDigits cs → AreDigits (without_zeros cs) × ((c : ℕ) (ds : List ℕ) → without_zeros cs ≡ c ∷ ds → c ≢ 48)
stripped [] d = (tt, λ c ds e. absurd (cc))
stripped (x ∷ cs) d = by (x == 48) refl (stripped cs d.2) where
  by : (b : Bool) → (x == 48) ≡ b → AreDigits (without_zeros cs) × ((c : ℕ) (ds : List ℕ) → without_zeros cs ≡ c ∷ ds → c ≢ 48)
      → AreDigits (cond b (without_zeros cs) (x ∷ cs)) × ((c : ℕ) (ds : List ℕ) → cond b (without_zeros cs) (x ∷ cs) ≡ c ∷ ds → c ≢ 48)
  by true e h = h
  by false e h = (d, λ c ds same. (λ z. (let first : x ≡ c = cc in let f : true ≡ false = sym (eq-eqb x 48 (first ∙ z)) ∙ e in cc)))

no-fraction : IsFraction []
no-fraction = (tt, no-end) where
  no-end : (rest : List ℕ) → [] ≢ rest ++ 48 ∷ []
  no-end [] e = cc
  no-end (c ∷ rest) e = cc

whole-canonical : (xs : List ℕ) → IsWholePart xs → IsCanonical xs
whole-canonical xs w = record { front = xs; back = []; leads = w; ends = no-fraction; spelled = sym (append-nil xs) }

some-whole : (c : ℕ) (cs : List ℕ) → AreDigits (c ∷ cs) → c ≢ 48 → IsWholePart (c ∷ cs)
some-whole c cs d n = (d, λ e. absurd (n e))

other-text : (c : ℕ) (cs : List ℕ) → c ≢ 48 → not (is_zero (c ∷ cs)) ≡ true
other-text c cs n = by (is_zero (c ∷ cs)) refl where
  by : (b : Bool) → is_zero (c ∷ cs) ≡ b → not b ≡ true
  by true e = absurd (n (let same : c ∷ cs ≡ codes "0" = (bytes_eq-Decides (c ∷ cs) (codes "0")).0 e in cc))
  by false e = refl

normal-by : (negative : Bool) (ds : List ℕ) → AreDigits ds → ((c : ℕ) (cs : List ℕ) → ds ≡ c ∷ cs → c ≢ 48) → is_normal_integer (signed_digits negative ds) ≡ true
normal-by negative [] d n = refl
normal-by true (c ∷ cs) d n =
    let first = n c cs refl in
    and_from _ _
    (signed-passes true (c ∷ cs) (whole-canonical (c ∷ cs) (some-whole c cs d first)) (λ e. other-text c cs first))
    (ap is_empty (back-alone (c ∷ cs) d))
normal-by false (c ∷ cs) d n =
    let first = n c cs refl in
    and_from _ _
    (signed-passes false (c ∷ cs) (whole-canonical (c ∷ cs) (some-whole c cs d first)) (λ e. absurd (cc)))
    (ap is_empty (back-alone (c ∷ cs) d))

-- the normal form of an integer passes its test
pub integer-passes : (text : List ℕ) → is_integer text ≡ true → is_normal_integer (integer_form text) ≡ true
integer-passes text h =
    let digits = digits-are (unsigned_of text) (and_parts (list_all is_digit (unsigned_of text)) (not (is_empty (unsigned_of text))) h).0 in
    let s = stripped (unsigned_of text) digits in
    normal-by (is_negative text) (without_zeros (unsigned_of text)) s.0 s.1

nothing-left : (cs : List ℕ) → AreDigits cs → number_in cs ≡ 0 → without_zeros cs ≡ []
nothing-left [] d z = refl
nothing-left (x ∷ cs) d z = by (x == 48) refl (nothing-left cs d.2) where
  by : (b : Bool) → (x == 48) ≡ b → (number_in cs ≡ 0 → without_zeros cs ≡ []) → cond b (without_zeros cs) (x ∷ cs) ≡ []
  by true e h =
      let first : x ≡ 48 = eqb-true x 48 e in
      let place : (x - 48) * 10 ^ length cs ≡ 0 = none-times (x - 48) (10 ^ length cs) (omega arith) in
      h (omega arith)
  by false e h =
      let other : x ≢ 48 = λ k. (let f : true ≡ false = sym (eq-eqb x 48 k) ∙ e in cc) in
      let some = number_in-some x cs d other in
      absurd (omega arith)

whole-by : (negative : Bool) (ds : List ℕ) → AreDigits ds → ((c : ℕ) (cs : List ℕ) → ds ≡ c ∷ cs → c ≢ 48) → (negative ≡ true → ds ≡ [])
    → is_whole_part (signed_digits negative ds) ≡ true
whole-by negative [] d n none = refl
whole-by true (c ∷ cs) d n none = absurd (let f : c ∷ cs ≡ [] = none refl in cc)
whole-by false (c ∷ cs) d n none = whole-passes (c ∷ cs) (some-whole c cs d (n c cs refl))

-- so does that of an integer that isn't below zero the test of whole parts
pub whole-form-passes : (text : List ℕ) → is_integer text ≡ true → (not (is_negative text) || size_of text == 0) ≡ true → is_whole_part (integer_form text) ≡ true
whole-form-passes text h k =
    let us = unsigned_of text in
    let digits = digits-are us (and_parts (list_all is_digit us) (not (is_empty us)) h).0 in
    let s = stripped us digits in
    whole-by (is_negative text) (without_zeros us) s.0 s.1 (λ e. nothing-left us digits (eqb-true (number_in us) 0 (ap (λ b. not b || number_in us == 0) (sym e) ∙ k)))
