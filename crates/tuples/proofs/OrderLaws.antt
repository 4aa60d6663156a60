-- Decimals in order, told by their digits alone.
use Rattle.std.proofs.Common.{◌≡◌, ◌≢◌, ◌∙◌, ◌++◌, ◌+◌, ◌-◌, ◌*◌, ◌^◌, ◌<◌, ◌≤◌, ℕ, zero, suc, Bool, true, false, cond, List, [], ◌∷◌, length, replicate, refl, sym, ap, subst, inl, inr, arith, pow-suc, append_assoc, append-nil, length-append, Option, Some, None}
use Rattle.std.proofs.lemmas.Bool.Decides.{nat_tests}
use Rattle.std.proofs.lemmas.Bool.{cases_eq, eq-eqb, ne_eqb}
use Rattle.std.proofs.lemmas.Cmp.{ranked, int_cmp_total}
use Rattle.std.proofs.lemmas.List.{length-replicate}
use Rattle.std.proofs.lemmas.Nat.{mul-le, pow-add}
use Rattle.std.specs.Cmp.Lexicographic.{slice_cmp}
use Rattle.std.specs.Ordering.{MatchOrdering, int_cmp, nat_cmp, ordering_then, ordering_reverse}
use Rattle.std.specs.Cmp.{IsTotalOrder}
use Rattle.std.specs.Prelude.{◌&&◌, ◌||◌, ◌==◌, not, pos, negsuc}
use Rattle.std.specs.List.{list_all}
use Rattle.std.specs.declared.cmp.Ordering.{Ordering}
use Rattle.std.specs.declared.cmp.Ordering.TheVariants.{Less, Equal, Greater}
use Rattle.ix_base.specs.Decimals.{AreDigits, number_in, front_of, back_of, whole, behind}
use Rattle.ix_base.specs.Forms.{is_digit, is_decimal, is_negative, unsigned_of, with_sign}
use Rattle.ix_base.specs.Orders.{decimal_cmp, order_cmp, times}
use Rattle.tuples.specs.DecimalOrder.{size_cmp, signed_cmp}
use Rattle.scale_sign.specs.WrittenDigits.{strip, cut, kept}
use Rattle.scale_sign.proofs.Digits.{AreDigits-append, AreDigits-left, AreDigits-right, AreDigits-zeros, cut-pad}
use Rattle.scale_sign.proofs.Values.{number_in-append, number_in-below, number_in-pad, number_in-strip, pow_pos-ten}

nat_less : (x y : ℕ) → x < y → nat_cmp x y ≡ Less
nat_less x y l = grind (arith, nat_tests)

nat_greater : (x y : ℕ) → y < x → nat_cmp x y ≡ Greater
nat_greater x y l = grind (arith, nat_tests)

nat_same : (x y : ℕ) → x ≡ y → nat_cmp x y ≡ Equal
nat_same x y e = grind (arith, nat_tests)

nat_by : (o : Ordering) (x y u v : ℕ) → MatchOrdering o (x < y) (x ≡ y) (y < x) → (x < y → u < v) → (x ≡ y → u ≡ v) → (y < x → v < u) → nat_cmp u v ≡ o
nat_by Less x y u v m l e g = nat_less u v (l m)
nat_by Equal x y u v m l e g = nat_same u v (e m)
nat_by Greater x y u v m l e g = nat_greater u v (g m)

place-by : (o : Ordering) (a b r s k : ℕ) → MatchOrdering o (a < b) (a ≡ b) (b < a) → r < k → s < k
    → nat_cmp (a * k + r) (b * k + s) ≡ ordering_then o (nat_cmp r s)
place-by Less a b r s k m l h =
    let p = mul-le (a + 1) k b k (omega arith) (omega arith) in nat_less (a * k + r) (b * k + s) (omega arith)
place-by Greater a b r s k m l h =
    let p = mul-le (b + 1) k a k (omega arith) (omega arith) in nat_greater (a * k + r) (b * k + s) (omega arith)
place-by Equal a b r s k m l h =
    let e : a * k ≡ b * k = ap (λ n. n * k) m in
    nat_by (nat_cmp r s) r s (a * k + r) (b * k + s) (ranked r s (nat_cmp r s) refl) (λ t. omega arith) (λ t. omega arith) (λ t. omega arith)

-- a higher place decides, and else the lower ones
place-cmp : (a b r s k : ℕ) → r < k → s < k → nat_cmp (a * k + r) (b * k + s) ≡ ordering_then (nat_cmp a b) (nat_cmp r s)
place-cmp a b r s k l h = place-by (nat_cmp a b) a b r s k (ranked a b (nat_cmp a b) refl) l h

digit-cmp : (c d : ℕ) → 48 ≤ c → 48 ≤ d → nat_cmp (c - 48) (d - 48) ≡ nat_cmp c d
digit-cmp c d l h = nat_by (nat_cmp c d) c d (c - 48) (d - 48) (ranked c d (nat_cmp c d) refl) (λ t. omega arith) (λ t. omega arith) (λ t. omega arith)

-- digits of one length
digits-cmp : (xs ys : List ℕ) → AreDigits xs → AreDigits ys → length xs ≡ length ys → slice_cmp nat_cmp xs ys ≡ nat_cmp (number_in xs) (number_in ys)
digits-cmp [] [] d e l = refl
digits-cmp [] (y ∷ ys) d e l = absurd (omega arith)
digits-cmp (x ∷ xs) [] d e l = absurd (omega arith)
digits-cmp (x ∷ xs) (y ∷ ys) d e l =
    let k : length xs ≡ length ys = omega arith in
    ap (ordering_then (nat_cmp x y)) (digits-cmp xs ys d.2 e.2 k)
    ∙ ap (λ o. ordering_then o (nat_cmp (number_in xs) (number_in ys))) (sym (digit-cmp x y d.0 e.0))
    ∙ sym (place-cmp (x - 48) (y - 48) (number_in xs) (number_in ys) (10 ^ length xs) (number_in-below xs d.2) (rw k (number_in-below ys e.2)))
    ∙ ap (λ n. nat_cmp ((x - 48) * 10 ^ length xs + number_in xs) ((y - 48) * 10 ^ n + number_in ys)) k

less-or_equal : (o : Ordering) (c d : ℕ) → MatchOrdering o (c < d) (c ≡ d) (d < c) → c ≤ d → ordering_then o Less ≡ Less
less-or_equal Less c d m l = refl
less-or_equal Equal c d m l = refl
less-or_equal Greater c d m l = absurd (omega arith)

greater-or_equal : (o : Ordering) (c d : ℕ) → MatchOrdering o (c < d) (c ≡ d) (d < c) → d ≤ c → ordering_then o Greater ≡ Greater
greater-or_equal Less c d m l = absurd (omega arith)
greater-or_equal Equal c d m l = refl
greater-or_equal Greater c d m l = refl

kept-cmp : (c d : ℕ) (ps qs : List ℕ) → 48 ≤ c → 48 ≤ d → ordering_then (nat_cmp c d) (slice_cmp nat_cmp ps qs) ≡ slice_cmp nat_cmp (kept c ps) (kept d qs)
kept-cmp c d (p ∷ ps) (q ∷ qs) l h = refl
kept-cmp c d [] (q ∷ qs) l h =
    elim (cases_eq c 48) [
      | inl e ↦ rw (eq-eqb c 48 e) (less-or_equal (nat_cmp c d) c d (ranked c d (nat_cmp c d) refl) (omega arith))
      | inr n ↦ rw (ne_eqb c 48 n) refl
    ]
kept-cmp c d (p ∷ ps) [] l h =
    elim (cases_eq d 48) [
      | inl e ↦ rw (eq-eqb d 48 e) (greater-or_equal (nat_cmp c d) c d (ranked c d (nat_cmp c d) refl) (omega arith))
      | inr n ↦ rw (ne_eqb d 48 n) refl
    ]
kept-cmp c d [] [] l h =
    elim (cases_eq c 48) [
      | inl e ↦ elim (cases_eq d 48) [
        | inl f ↦ rw (eq-eqb c 48 e, eq-eqb d 48 f) (ap (λ o. ordering_then o Equal) (nat_same c d (omega arith)))
        | inr m ↦ rw (eq-eqb c 48 e, ne_eqb d 48 m) (ap (λ o. ordering_then o Equal) (nat_less c d (omega arith)))
      ]
      | inr n ↦ elim (cases_eq d 48) [
        | inl f ↦ rw (ne_eqb c 48 n, eq-eqb d 48 f) (ap (λ o. ordering_then o Equal) (nat_greater c d (omega arith)))
        | inr m ↦ rw (ne_eqb c 48 n, ne_eqb d 48 m) refl
      ]
    ]

-- zeros at the end of a fraction don't count
cut-cmp : (xs ys : List ℕ) → AreDigits xs → AreDigits ys → length xs ≡ length ys → slice_cmp nat_cmp xs ys ≡ slice_cmp nat_cmp (cut xs) (cut ys)
cut-cmp [] [] d e l = refl
cut-cmp [] (y ∷ ys) d e l = absurd (omega arith)
cut-cmp (x ∷ xs) [] d e l = absurd (omega arith)
cut-cmp (x ∷ xs) (y ∷ ys) d e l =
    ap (ordering_then (nat_cmp x y)) (cut-cmp xs ys d.2 e.2 (omega arith)) ∙ kept-cmp x y (cut xs) (cut ys) d.0 e.0

number-strip : (xs : List ℕ) → number_in (strip xs) ≡ number_in xs
number-strip xs = ap number_in (sym (append-nil (strip xs))) ∙ number_in-strip xs [] ∙ ap number_in (append-nil xs)

AreDigits-strip : (xs : List ℕ) → AreDigits xs → AreDigits (strip xs)
AreDigits-strip [] d = tt
AreDigits-strip (c ∷ cs) d =
    elim (cases_eq c 48) [
      | inl e ↦ rw (eq-eqb c 48 e) (AreDigits-strip cs d.2)
      | inr n ↦ rw (ne_eqb c 48 n) d
    ]

pow-up : (i j : ℕ) → 10 ^ i ≤ 10 ^ (j + i)
pow-up i zero = let e : i ≡ 0 + i = omega arith in subst (λ j. 10 ^ i ≤ 10 ^ j) e (omega arith)
pow-up i (suc j) =
    let h = pow-up i j in
    let e : suc (j + i) ≡ suc j + i = omega arith in
    subst (λ k. 10 ^ i ≤ 10 ^ k) e (rw (pow-suc 10 (j + i)) (omega arith))

-- digits without zeros in front are less than any of more digits
strip-less : (n : ℕ) (xs : List ℕ) → AreDigits xs → n < length (strip xs) → 10 ^ n ≤ number_in (strip xs)
strip-less n [] d l = absurd (omega arith)
strip-less n (c ∷ cs) d l =
    elim (cases_eq c 48) [
      | inl e ↦ rw (eq-eqb c 48 e) (strip-less n cs d.2 (rw (eq-eqb c 48 e) at l))
      | inr m ↦
          let low = d.0 in
          let k : n < suc (length cs) = rw (ne_eqb c 48 m) at l in
          let there : (length cs - n) + n ≡ length cs = omega arith in
          let up = subst (λ j. 10 ^ n ≤ 10 ^ j) there (pow-up n (length cs - n)) in
          let p = mul-le 1 (10 ^ length cs) (c - 48) (10 ^ length cs) (let q : c ≢ 48 = m in omega arith) (omega arith) in
          rw (ne_eqb c 48 m) (omega arith)
    ]

fronts-by : (o : Ordering) (xs ys : List ℕ) → AreDigits xs → AreDigits ys
    → MatchOrdering o (length (strip xs) < length (strip ys)) (length (strip xs) ≡ length (strip ys)) (length (strip ys) < length (strip xs))
    → ordering_then o (slice_cmp nat_cmp (strip xs) (strip ys)) ≡ nat_cmp (number_in (strip xs)) (number_in (strip ys))
fronts-by Less xs ys d e m =
    let p = number_in-below (strip xs) (AreDigits-strip xs d) in
    let q = strip-less (length (strip xs)) ys e m in
    sym (nat_less (number_in (strip xs)) (number_in (strip ys)) (omega arith))
fronts-by Equal xs ys d e m = digits-cmp (strip xs) (strip ys) (AreDigits-strip xs d) (AreDigits-strip ys e) m
fronts-by Greater xs ys d e m =
    let p = number_in-below (strip ys) (AreDigits-strip ys e) in
    let q = strip-less (length (strip ys)) xs d m in
    sym (nat_greater (number_in (strip xs)) (number_in (strip ys)) (omega arith))

fronts-cmp : (xs ys : List ℕ) → AreDigits xs → AreDigits ys
    → ordering_then (nat_cmp (length (strip xs)) (length (strip ys))) (slice_cmp nat_cmp (strip xs) (strip ys)) ≡ nat_cmp (number_in xs) (number_in ys)
fronts-cmp xs ys d e =
    fronts-by (nat_cmp (length (strip xs)) (length (strip ys))) xs ys d e (ranked (length (strip xs)) (length (strip ys)) (nat_cmp (length (strip xs)) (length (strip ys))) refl)
    ∙ (λ i. nat_cmp (number-strip xs i) (number-strip ys i))

-- a text of digits with zeros behind
abbrev padded : List ℕ → ℕ → List ℕ
padded xs k = xs ++ replicate k 48

padded-long : (xs ys : List ℕ) → length (padded xs (length ys)) ≡ length (padded ys (length xs))
padded-long xs ys = omega (arith, length-append xs (replicate (length ys) 48), length-append ys (replicate (length xs) 48), length-replicate {A = ℕ} (length ys) 48, length-replicate {A = ℕ} (length xs) 48)

padded-digits : (xs : List ℕ) (k : ℕ) → AreDigits xs → AreDigits (padded xs k)
padded-digits xs k d = AreDigits-append xs (replicate k 48) d (AreDigits-zeros k)

padded-number : (f b : List ℕ) (k : ℕ) → number_in (f ++ b) * 10 ^ k ≡ number_in f * 10 ^ length (padded b k) + number_in (padded b k)
padded-number f b k =
    sym (number_in-pad (f ++ b) k) ∙ ap number_in (append_assoc f b (replicate k 48)) ∙ number_in-append f (padded b k)

pub size-is : (f b g c : List ℕ) → AreDigits f → AreDigits b → AreDigits g → AreDigits c
    → size_cmp f b g c ≡ nat_cmp (number_in (f ++ b) * 10 ^ length c) (number_in (g ++ c) * 10 ^ length b)
size-is f b g c df db dg dc =
    let p = padded b (length c) in
    let q = padded c (length b) in
    let long : length p ≡ length q = padded-long b c in
    let backs : slice_cmp nat_cmp (cut b) (cut c) ≡ nat_cmp (number_in p) (number_in q) =
    (λ i. slice_cmp nat_cmp (sym (cut-pad b (length c)) i) (sym (cut-pad c (length b)) i))
    ∙ sym (cut-cmp p q (padded-digits b (length c) db) (padded-digits c (length b) dc) long)
    ∙ digits-cmp p q (padded-digits b (length c) db) (padded-digits c (length b) dc) long in
    (λ i. ordering_then (fronts-cmp f g df dg i) (backs i))
    ∙ sym (place-cmp (number_in f) (number_in g) (number_in p) (number_in q) (10 ^ length p) (number_in-below p (padded-digits b (length c) db))
    (rw long (number_in-below q (padded-digits c (length b) dc))))
    ∙ ap (λ n. nat_cmp (number_in f * 10 ^ length p + number_in p) (number_in g * 10 ^ n + number_in q)) long
    ∙ (λ i. nat_cmp (sym (padded-number f b (length c)) i) (sym (padded-number g c (length b)) i))

-- with signs

scaled-zero : (n k : ℕ) → (n * 10 ^ k == 0) ≡ (n == 0)
scaled-zero zero k = grind arith
scaled-zero (suc n) k = let p = pow_pos-ten k in let q = mul-le 1 1 (suc n) (10 ^ k) (omega arith) (omega arith) in ne_eqb (suc n * 10 ^ k) 0 (λ e. omega arith) ∙ sym (ne_eqb (suc n) 0 (λ e. omega arith))

int_from : (o : Ordering) (n m : ℕ) → MatchOrdering o (n < m) (n ≡ m) (m < n) → o ≡ int_cmp (pos n) (pos m)
int_from Less n m h = grind (arith, nat_tests)
int_from Equal n m h = grind (arith, nat_tests)
int_from Greater n m h = grind (arith, nat_tests)

both_pos : (n m : ℕ) → nat_cmp n m ≡ int_cmp (pos n) (pos m)
both_pos n m = int_from (nat_cmp n m) n m (ranked n m (nat_cmp n m) refl)

neg_from : (o : Ordering) (n m : ℕ) → MatchOrdering o (m < n) (m ≡ n) (n < m) → o ≡ int_cmp (negsuc n) (negsuc m)
neg_from Less n m h = grind (arith, nat_tests)
neg_from Equal n m h = grind (arith, nat_tests)
neg_from Greater n m h = grind (arith, nat_tests)

both_neg : (n m : ℕ) → nat_cmp (suc m) (suc n) ≡ int_cmp (negsuc n) (negsuc m)
both_neg n m = nat_by (nat_cmp m n) m n (suc m) (suc n) (ranked m n (nat_cmp m n) refl) (λ t. omega arith) (λ t. omega arith) (λ t. omega arith)
    ∙ neg_from (nat_cmp m n) n m (ranked m n (nat_cmp m n) refl)

nonzero : (m : ℕ) → (suc m == 0) ≡ false
nonzero m = ne_eqb (suc m) 0 (λ e. omega arith)

sign-is : (s t : Bool) (n m : ℕ) → signed_cmp (s && not (n == 0)) (t && not (m == 0)) (nat_cmp n m) (nat_cmp m n) ≡ int_cmp (with_sign s n) (with_sign t m)
sign-is false false n m = both_pos n m
sign-is false true n zero = both_pos n 0
sign-is false true n (suc m) = ap (λ b. signed_cmp false (not b) (nat_cmp n (suc m)) (nat_cmp (suc m) n)) (nonzero m)
sign-is true false zero m = both_pos 0 m
sign-is true false (suc n) m = ap (λ b. signed_cmp (not b) false (nat_cmp (suc n) m) (nat_cmp m (suc n))) (nonzero n)
sign-is true true zero zero = both_pos 0 0
sign-is true true zero (suc m) = ap (λ b. signed_cmp false (not b) (nat_cmp 0 (suc m)) (nat_cmp (suc m) 0)) (nonzero m)
sign-is true true (suc n) zero = ap (λ b. signed_cmp (not b) false (nat_cmp (suc n) 0) (nat_cmp 0 (suc n))) (nonzero n)
sign-is true true (suc n) (suc m) = (λ i. signed_cmp (not (nonzero n i)) (not (nonzero m i)) (nat_cmp (suc n) (suc m)) (nat_cmp (suc m) (suc n))) ∙ both_neg n m

digits_from : (xs : List ℕ) → list_all is_digit xs ≡ true → AreDigits xs
digits_from [] e = tt
digits_from (c ∷ cs) e =
    let here : is_digit c ≡ true = grind (arith, nat_tests) in
    let rest : list_all is_digit cs ≡ true = grind (arith, nat_tests) in
    (grind (arith, nat_tests), grind (arith, nat_tests), digits_from cs rest)

-- the parts of a decimal are digits
pub parts-digits : (text : List ℕ) → is_decimal text ≡ true → AreDigits (front_of (unsigned_of text) ++ back_of (unsigned_of text))
parts-digits text e =
    let all : list_all is_digit (front_of (unsigned_of text) ++ back_of (unsigned_of text)) ≡ true = grind (arith, nat_tests) in
    digits_from _ all

behind-by : (c : ℕ) (cs : List ℕ) (b : Bool) → (c == 43 || c == 45) ≡ b → back_of (cond b cs (c ∷ cs)) ≡ back_of (c ∷ cs)
behind-by c cs false e = refl
behind-by c cs true e = let n : c ≢ 46 = (λ k. let no : (c == 43 || c == 45) ≡ false = rw k refl in absurd (cc)) in rw (ne_eqb c 46 n) refl

behind-unsigned : (text : List ℕ) → back_of (unsigned_of text) ≡ back_of text
behind-unsigned [] = refl
behind-unsigned (c ∷ cs) = behind-by c cs (c == 43 || c == 45) refl

pub decimal-is : (x y : List ℕ) → is_decimal x ≡ true → is_decimal y ≡ true
    → signed_cmp (is_negative x && not (number_in (front_of (unsigned_of x) ++ back_of (unsigned_of x)) == 0))
    (is_negative y && not (number_in (front_of (unsigned_of y) ++ back_of (unsigned_of y)) == 0))
    (size_cmp (front_of (unsigned_of x)) (back_of (unsigned_of x)) (front_of (unsigned_of y)) (back_of (unsigned_of y)))
    (size_cmp (front_of (unsigned_of y)) (back_of (unsigned_of y)) (front_of (unsigned_of x)) (back_of (unsigned_of x)))
    ≡ decimal_cmp x y
decimal-is x y dx dy =
    let f = front_of (unsigned_of x) in let b = back_of (unsigned_of x) in
    let g = front_of (unsigned_of y) in let c = back_of (unsigned_of y) in
    let d = parts-digits x dx in let e = parts-digits y dy in
    let n = number_in (f ++ b) * 10 ^ length c in let m = number_in (g ++ c) * 10 ^ length b in
    (λ i. signed_cmp (is_negative x && not (sym (scaled-zero (number_in (f ++ b)) (length c)) i)) (is_negative y && not (sym (scaled-zero (number_in (g ++ c)) (length b)) i))
    (size-is f b g c (AreDigits-left f b d) (AreDigits-right f b d) (AreDigits-left g c e) (AreDigits-right g c e) i)
    (size-is g c f b (AreDigits-left g c e) (AreDigits-right g c e) (AreDigits-left f b d) (AreDigits-right f b d) i))
    ∙ sign-is (is_negative x) (is_negative y) n m
    ∙ (λ i. int_cmp (with_sign (is_negative x) (number_in (f ++ b) * 10 ^ length (behind-unsigned y i))) (with_sign (is_negative y) (number_in (g ++ c) * 10 ^ length (behind-unsigned x i))))

-- decimals are in one order

then-equal : (o : Ordering) → ordering_then o Equal ≡ o
then-equal Less = refl
then-equal Equal = refl
then-equal Greater = refl

add-zero : (n : ℕ) → n ≡ n + 0
add-zero n = omega arith

plus_comm : (m n : ℕ) → m + n ≡ n + m
plus_comm m n = omega arith

scaled-cmp : (n m k : ℕ) → nat_cmp (n * 10 ^ k) (m * 10 ^ k) ≡ nat_cmp n m
scaled-cmp n m k =
    let p = pow_pos-ten k in
    let e : nat_cmp (n * 10 ^ k + 0) (m * 10 ^ k + 0) ≡ nat_cmp n m = place-cmp n m 0 0 (10 ^ k) p p ∙ then-equal (nat_cmp n m) in
    (λ i. nat_cmp (add-zero (n * 10 ^ k) (i)) (add-zero (m * 10 ^ k) (i))) ∙ e

power : (w i k : ℕ) → w * 10 ^ (i + k) ≡ (w * 10 ^ i) * 10 ^ k
power w i k = let e = pow-add 10 i k in rw e (grind arith)

-- both times ten to the power of k
scale-is : (s t : Bool) (n m k : ℕ) → int_cmp (with_sign s (n * 10 ^ k)) (with_sign t (m * 10 ^ k)) ≡ int_cmp (with_sign s n) (with_sign t m)
scale-is s t n m k =
    sym (sign-is s t (n * 10 ^ k) (m * 10 ^ k))
    ∙ (λ i. signed_cmp (s && not (scaled-zero n k i)) (t && not (scaled-zero m k i)) (scaled-cmp n m k i) (scaled-cmp m n k i))
    ∙ sign-is s t n m

-- at a common power
at_power : (x y : List ℕ) (k : ℕ) → int_cmp (times x (behind y + k)) (times y (behind x + k)) ≡ decimal_cmp x y
at_power x y k =
    (λ i. int_cmp (with_sign (is_negative x) (power (whole (unsigned_of x)) (behind y) k i)) (with_sign (is_negative y) (power (whole (unsigned_of y)) (behind x) k i)))
    ∙ scale-is (is_negative x) (is_negative y) (whole (unsigned_of x) * 10 ^ behind y) (whole (unsigned_of y) * 10 ^ behind x) k

pub decimal_total : IsTotalOrder decimal_cmp
decimal_total = record {
  antisymm = λ x y. int_cmp_total.antisymm (times x (behind y)) (times y (behind x));
  trans = λ x y z e f. sym (outer x y z) ∙ int_cmp_total.trans (times x (behind y + behind z)) (times y (behind x + behind z)) (times z (behind x + behind y)) (at_power x y (behind z) ∙ e) (inner x y z ∙ f);
  congr = λ x y z e. sym (outer x y z) ∙ int_cmp_total.congr (times x (behind y + behind z)) (times y (behind x + behind z)) (times z (behind x + behind y)) (at_power x y (behind z) ∙ e) ∙ inner x y z;
} where
  inner : (x y z : List ℕ) → int_cmp (times y (behind x + behind z)) (times z (behind x + behind y)) ≡ decimal_cmp y z
  inner x y z = (λ i. int_cmp (times y (plus_comm (behind x) (behind z) i)) (times z (plus_comm (behind x) (behind y) i))) ∙ at_power y z (behind x)

  outer : (x y z : List ℕ) → int_cmp (times x (behind y + behind z)) (times z (behind x + behind y)) ≡ decimal_cmp x z
  outer x y z = (λ i. int_cmp (times x (plus_comm (behind y) (behind z) i)) (times z (behind x + behind y))) ∙ at_power x z (behind y)

order_reversed : (x y : Option (List ℕ)) → order_cmp x y ≡ ordering_reverse (order_cmp y x)
order_reversed (Some x) (Some y) = decimal_total.antisymm x y
order_reversed (Some x) None = refl
order_reversed None (Some y) = refl
order_reversed None None = refl

order_through : (x y z : Option (List ℕ)) → order_cmp x y ≡ Less → order_cmp y z ≡ Less → order_cmp x z ≡ Less
order_through (Some x) (Some y) (Some z) e f = decimal_total.trans x y z e f
order_through (Some x) (Some y) None e f = refl
order_through (Some x) None (Some z) e f = absurd (cc)
order_through (Some x) None None e f = absurd (cc)
order_through None (Some y) z e f = absurd (cc)
order_through None None z e f = absurd (cc)

order_same : (x y z : Option (List ℕ)) → order_cmp x y ≡ Equal → order_cmp x z ≡ order_cmp y z
order_same (Some x) (Some y) (Some z) e = decimal_total.congr x y z e
order_same (Some x) (Some y) None e = refl
order_same (Some x) None z e = absurd (cc)
order_same None (Some y) z e = absurd (cc)
order_same None None z e = refl

-- orders, one of which may be missing, are in one order
pub order_total : IsTotalOrder order_cmp
order_total = record { antisymm = order_reversed; trans = order_through; congr = order_same }
