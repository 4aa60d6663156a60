-- The number that digits write, through joining, cutting and padding.
use Rattle.std.proofs.Common.{◌≡◌, ◌≢◌, ℕ, ◌+◌, ◌-◌, ◌*◌, ◌^◌, ◌<◌, List, [], ◌∷◌, ◌++◌, length, replicate, zero, suc, refl, sym, ap, ◌∙◌, inl, inr, pow-suc, arith, length-append}
use Rattle.std.proofs.lemmas.List.{length-replicate, nil_from_length}
use Rattle.std.proofs.lemmas.Nat.{pow-add, mul-le}
use Rattle.std.proofs.lemmas.Bool.{cases_eq, eq-eqb, ne_eqb}
use Rattle.ix_base.specs.Decimals.{AreDigits, number_in}
use Rattle.scale_sign.specs.WrittenDigits.{strip, cut, kept, or_zero, stripped_rest, cut_rest, zeros_by}
use Rattle.ix_base.specs.Decimals.{pointed}

pub pow_pos-ten : (k : ℕ) → 0 < 10 ^ k
pow_pos-ten zero = omega arith
pow_pos-ten (suc k) = let h = pow_pos-ten k in rw (pow-suc 10 k) (omega arith)

pub number_in-append : (xs ys : List ℕ) → number_in (xs ++ ys) ≡ number_in xs * 10 ^ length ys + number_in ys
number_in-append [] ys = grind arith
number_in-append (c ∷ cs) ys =
    let e = number_in-append cs ys in
    let l = length-append cs ys in
    let p = pow-add 10 (length cs) (length ys) in
    rw (l, p, e) (grind arith)

pub number_in-zeros : (k : ℕ) → number_in (replicate k 48) ≡ 0
number_in-zeros zero = refl
number_in-zeros (suc k) = let e = number_in-zeros k in grind arith

pub number_in-pad : (xs : List ℕ) (k : ℕ) → number_in (xs ++ replicate k 48) ≡ number_in xs * 10 ^ k
number_in-pad xs k = rw (number_in-append xs (replicate k 48), length-replicate {A = ℕ} k 48, number_in-zeros k) (omega arith)

pub number_in-lead : (k : ℕ) (xs : List ℕ) → number_in (replicate k 48 ++ xs) ≡ number_in xs
number_in-lead k xs = rw (number_in-append (replicate k 48) xs, number_in-zeros k) (grind arith)

pub number_in-below : (xs : List ℕ) → AreDigits xs → number_in xs < 10 ^ length xs
number_in-below [] d = omega arith
number_in-below (c ∷ cs) d =
    let h = number_in-below cs d.2 in
    let low = d.0 in
    let high = d.1 in
    let m = mul-le (c - 48) (10 ^ length cs) 9 (10 ^ length cs) (omega arith) (omega arith) in
    rw (pow-suc 10 (length cs)) (omega arith)

pub number_in-strip : (xs ys : List ℕ) → number_in (strip xs ++ ys) ≡ number_in (xs ++ ys)
number_in-strip [] ys = refl
number_in-strip (c ∷ cs) ys = let h = number_in-strip cs ys in
    elim (cases_eq c 48) [
      | inl e ↦ rw (eq-eqb c 48 e, e) (grind arith)
      | inr n ↦ rw (ne_eqb c 48 n) refl
    ]

pub number_in-or_zero : (xs ys : List ℕ) → number_in (or_zero xs ++ ys) ≡ number_in (xs ++ ys)
number_in-or_zero [] ys = omega arith
number_in-or_zero (c ∷ cs) ys = refl

cut-zeros-step : (c : ℕ) (cs ds : List ℕ) (k : ℕ) → cs ≡ ds ++ replicate k 48 → (j : ℕ) × (c ∷ cs ≡ kept c ds ++ replicate j 48)
cut-zeros-step c cs [] k e =
    elim (cases_eq c 48) [
      | inl h ↦ (suc k, rw (eq-eqb c 48 h) (cc))
      | inr n ↦ (k, rw (ne_eqb c 48 n) (cc))
    ]
cut-zeros-step c cs (d ∷ ds) k e = (k, ap (λ xs. c ∷ xs) e)

-- what was cut was zeros
pub cut-zeros : (xs : List ℕ) → (k : ℕ) × (xs ≡ cut xs ++ replicate k 48)
cut-zeros [] = (0, refl)
cut-zeros (c ∷ cs) = cut-zeros-step c cs (cut cs) (cut-zeros cs).0 (cut-zeros cs).1

-- a zero at the end doesn't matter
pub cut_zero : (xs : List ℕ) → cut (xs ++ 48 ∷ []) ≡ cut xs
cut_zero [] = refl
cut_zero (c ∷ cs) = rw (cut_zero cs) refl

kept_push : (c : ℕ) (cs : List ℕ) (d : ℕ) → kept c (cs ++ d ∷ []) ≡ c ∷ (cs ++ d ∷ [])
kept_push c [] d = refl
kept_push c (e ∷ es) d = refl

-- another digit at the end stays
pub cut_other : (xs : List ℕ) (d : ℕ) → d ≢ 48 → cut (xs ++ d ∷ []) ≡ xs ++ d ∷ []
cut_other [] d n = rw (ne_eqb d 48 n) refl
cut_other (c ∷ cs) d n = rw (cut_other cs d n) (kept_push c cs d)

-- strip and cut of joined lists
pub strip-append : (xs ys : List ℕ) → strip (xs ++ ys) ≡ stripped_rest (strip xs) ys
strip-append [] ys = refl
strip-append (c ∷ cs) ys =
    elim (cases_eq c 48) [
      | inl e ↦ rw (eq-eqb c 48 e) (strip-append cs ys)
      | inr n ↦ rw (ne_eqb c 48 n) refl
    ]

cut_rest-nil : (ys : List ℕ) → ys ≡ cut_rest [] ys
cut_rest-nil [] = refl
cut_rest-nil (y ∷ ys) = refl

kept-cut_rest : (c : ℕ) (cs ys : List ℕ) → kept c (cut_rest cs ys) ≡ cut_rest (c ∷ cs) ys
kept-cut_rest c cs [] = refl
kept-cut_rest c [] (y ∷ ys) = refl
kept-cut_rest c (d ∷ ds) (y ∷ ys) = refl

pub cut-append : (xs ys : List ℕ) → cut (xs ++ ys) ≡ cut_rest xs (cut ys)
cut-append [] ys = cut_rest-nil (cut ys)
cut-append (c ∷ cs) ys = rw (cut-append cs ys) (kept-cut_rest c cs (cut ys))

strip-zeros : (n : ℕ) → strip (replicate n 48) ≡ []
strip-zeros zero = refl
strip-zeros (suc n) = strip-zeros n

pub cut-zeros_alone : (n : ℕ) → cut (replicate n 48) ≡ []
cut-zeros_alone zero = refl
cut-zeros_alone (suc n) = rw (cut-zeros_alone n) refl

rest-zeros : (xs : List ℕ) (n : ℕ) → stripped_rest xs (replicate n 48) ≡ xs ++ replicate (zeros_by xs n) 48
rest-zeros [] n = strip-zeros n
rest-zeros (x ∷ xs) n = refl

front-zeros : (n : ℕ) (xs : List ℕ) → cut_rest (replicate n 48) xs ≡ replicate (zeros_by xs n) 48 ++ xs
front-zeros n [] = cut-zeros_alone n
front-zeros n (x ∷ xs) = refl

-- what is written in front of the point, of parts that were stripped one after another
pub strip-parts : (a b x y : List ℕ) (n m : ℕ) → x ≡ strip a → x ++ y ≡ stripped_rest x b → m ≡ zeros_by (x ++ y) n →
    strip ((a ++ b) ++ replicate n 48) ≡ (x ++ y) ++ replicate m 48
strip-parts a b x y n m e f g =
    let h : strip (a ++ b) ≡ x ++ y = strip-append a b ∙ (rw (← e) (sym f)) in
    rw (strip-append (a ++ b) (replicate n 48), h, g) (rest-zeros (x ++ y) n)

-- what is written behind the point
pub cut-parts : (a b x y : List ℕ) (n m : ℕ) → y ≡ cut b → x ++ y ≡ cut_rest a y → m ≡ zeros_by (x ++ y) n →
    cut (replicate n 48 ++ (a ++ b)) ≡ replicate m 48 ++ (x ++ y)
cut-parts a b x y n m e f g =
    let h : cut (a ++ b) ≡ x ++ y = cut-append a b ∙ (rw (← e) (sym f)) in
    rw (cut-append (replicate n 48) (a ++ b), h, g) (front-zeros n (x ++ y))

or_zero-some : (xs : List ℕ) → 0 < length xs → or_zero xs ≡ xs
or_zero-some [] some = absurd (omega arith)
or_zero-some (x ∷ xs) some = refl

pointed-some : (xs : List ℕ) → 0 < length xs → pointed xs ≡ 46 ∷ xs
pointed-some [] some = absurd (omega arith)
pointed-some (x ∷ xs) some = refl

-- the same with the `0` that stands where nothing else does
pub whole-none : (a b x y : List ℕ) (n m : ℕ) → x ≡ strip a → x ++ y ≡ stripped_rest x b → m ≡ zeros_by (x ++ y) n →
    length x + length y + m ≡ 0 → or_zero (strip ((a ++ b) ++ replicate n 48)) ≡ 48 ∷ []
whole-none a b x y n m e f g none =
    let h = strip-parts a b x y n m e f g in
    let k : (x ++ y) ++ replicate m 48 ≡ [] = nil_from_length _ (omega (arith, length-append (x ++ y) (replicate m 48), length-append x y, length-replicate {A = ℕ} m 48)) in
    rw (h, k) refl

pub whole-some : (a b x y : List ℕ) (n m : ℕ) → x ≡ strip a → x ++ y ≡ stripped_rest x b → m ≡ zeros_by (x ++ y) n →
    0 < length x + length y + m → or_zero (strip ((a ++ b) ++ replicate n 48)) ≡ (x ++ y) ++ replicate m 48
whole-some a b x y n m e f g some =
    let h = strip-parts a b x y n m e f g in
    rw h (or_zero-some _ (omega (arith, length-append (x ++ y) (replicate m 48), length-append x y, length-replicate {A = ℕ} m 48)))

pub fraction-none : (a b x y : List ℕ) (n m : ℕ) → y ≡ cut b → x ++ y ≡ cut_rest a y → m ≡ zeros_by (x ++ y) n →
    length (x ++ y) ≡ 0 → pointed (cut (replicate n 48 ++ (a ++ b))) ≡ []
fraction-none a b x y n m e f g none =
    let h = cut-parts a b x y n m e f g in
    let k : x ++ y ≡ [] = nil_from_length (x ++ y) none in
    rw (h, g, k) refl

pub fraction-some : (a b x y : List ℕ) (n m : ℕ) → y ≡ cut b → x ++ y ≡ cut_rest a y → m ≡ zeros_by (x ++ y) n →
    0 < length (x ++ y) → pointed (cut (replicate n 48 ++ (a ++ b))) ≡ 46 ∷ (replicate m 48 ++ (x ++ y))
fraction-some a b x y n m e f g some =
    let h = cut-parts a b x y n m e f g in
    rw h (pointed-some _ (omega (arith, length-append (replicate m 48) (x ++ y))))

pub number_in-some : (c : ℕ) (cs : List ℕ) → AreDigits (c ∷ cs) → c ≢ 48 → 0 < number_in (c ∷ cs)
number_in-some c cs d n =
    let low = d.0 in
    let p = pow_pos-ten (length cs) in
    let m = mul-le 1 (10 ^ length cs) (c - 48) (10 ^ length cs) (omega arith) (omega arith) in
    omega arith
