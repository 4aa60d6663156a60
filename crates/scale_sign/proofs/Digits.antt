-- What keeps digits digits, and the normal forms of their lists.
use Rattle.std.proofs.Common.{◌≡◌, ◌≢◌, ℕ, ◌+◌, ◌-◌, ◌*◌, ◌^◌, ◌<◌, ◌≤◌, List, [], ◌∷◌, ◌++◌, length, take, drop, replicate, zero, suc, nat_le, true, refl, sym, ap, subst, ◌∙◌, inl, inr, arith, length-append}
use Rattle.std.proofs.lemmas.List.{length-replicate, append-nil}
use Rattle.std.proofs.lemmas.Nat.{same_from_place}
use Rattle.std.proofs.lemmas.Bool.{and_from, and_parts, cases_eq, eq-eqb, le-leb, leb-true, ne_eqb}
use Rattle.std.specs.List.{list_all}
use Rattle.ix_base.specs.Decimals.{AreDigits, number_in, IsWholePart, IsFraction, front_of, back_of, pointed}
use Rattle.ix_base.specs.Forms.{is_digit}
use Rattle.scale_sign.specs.WrittenDigits.{strip, cut, kept, or_zero}
use Rattle.scale_sign.proofs.Values.{number_in-below, number_in-lead, number_in-pad, cut-append, cut-zeros_alone, cut_zero}

-- The test of digits, and what they are.

pub digits-are : (t : List ℕ) → list_all is_digit t ≡ true → AreDigits t
digits-are [] e = tt
digits-are (c ∷ cs) e =
    let s = and_parts (is_digit c) (list_all is_digit cs) e in
    let d = and_parts (nat_le 48 c) (nat_le c 57) s.0 in
    (leb-true 48 c d.0, leb-true c 57 d.1, digits-are cs s.1)

pub are-digits : (t : List ℕ) → AreDigits t → list_all is_digit t ≡ true
are-digits [] d = refl
are-digits (c ∷ cs) (low, high, more) = and_from _ _ (and_from _ _ (le-leb 48 c low) (le-leb c 57 high)) (are-digits cs more)

pub AreDigits-append : (xs ys : List ℕ) → AreDigits xs → AreDigits ys → AreDigits (xs ++ ys)
AreDigits-append [] ys d e = e
AreDigits-append (c ∷ cs) ys d e = (d.0, d.1, AreDigits-append cs ys d.2 e)

pub AreDigits-left : (xs ys : List ℕ) → AreDigits (xs ++ ys) → AreDigits xs
AreDigits-left [] ys d = tt
AreDigits-left (c ∷ cs) ys d = (d.0, d.1, AreDigits-left cs ys d.2)

pub AreDigits-right : (xs ys : List ℕ) → AreDigits (xs ++ ys) → AreDigits ys
AreDigits-right [] ys d = d
AreDigits-right (c ∷ cs) ys d = AreDigits-right cs ys d.2

pub AreDigits-zeros : (k : ℕ) → AreDigits (replicate k 48)
AreDigits-zeros zero = tt
AreDigits-zeros (suc k) = (omega arith, omega arith, AreDigits-zeros k)

pub AreDigits-take : (k : ℕ) (xs : List ℕ) → AreDigits xs → AreDigits (take k xs)
AreDigits-take zero xs d = tt
AreDigits-take (suc k) [] d = tt
AreDigits-take (suc k) (c ∷ cs) d = (d.0, d.1, AreDigits-take k cs d.2)

pub AreDigits-drop : (k : ℕ) (xs : List ℕ) → AreDigits xs → AreDigits (drop k xs)
AreDigits-drop zero xs d = d
AreDigits-drop (suc k) [] d = tt
AreDigits-drop (suc k) (c ∷ cs) d = AreDigits-drop k cs d.2

-- the whole part that is written is one
pub IsWholePart-strip : (xs : List ℕ) → AreDigits xs → IsWholePart (or_zero (strip xs))
IsWholePart-strip [] d = ((omega arith, omega arith, tt), λ e. refl)
IsWholePart-strip (c ∷ cs) d =
    elim (cases_eq c 48) [
      | inl e ↦ rw (eq-eqb c 48 e) (IsWholePart-strip cs d.2)
      | inr n ↦ rw (ne_eqb c 48 n) (d, λ e. absurd (n e))
    ]

-- a whole part is the one that is written for it
pub IsWholePart-same : (xs : List ℕ) → IsWholePart xs → or_zero (strip xs) ≡ xs
IsWholePart-same [] w = elim w [ ]
IsWholePart-same (c ∷ cs) w =
    elim (cases_eq c 48) [
      | inl e ↦ rw (w.1 e, e) refl
      | inr n ↦ rw (ne_eqb c 48 n) refl
    ]

cut-kept : (c : ℕ) (ds : List ℕ) → cut ds ≡ ds → cut (kept c ds) ≡ kept c ds
cut-kept c [] e =
    elim (cases_eq c 48) [
      | inl h ↦ rw (eq-eqb c 48 h) refl
      | inr n ↦ rw (ne_eqb c 48 n, ne_eqb c 48 n) refl
    ]
cut-kept c (d ∷ ds) e = rw e refl

pub cut-cut : (xs : List ℕ) → cut (cut xs) ≡ cut xs
cut-cut [] = refl
cut-cut (c ∷ cs) = cut-kept c (cut cs) (cut-cut cs)

length-kept : (c : ℕ) (ds : List ℕ) → length (kept c ds) ≤ length ds + 1
length-kept c [] =
    elim (cases_eq c 48) [
      | inl h ↦ rw (eq-eqb c 48 h) (omega arith)
      | inr n ↦ rw (ne_eqb c 48 n) (omega arith)
    ]
length-kept c (d ∷ ds) = omega arith

length-cut : (xs : List ℕ) → length (cut xs) ≤ length xs
length-cut [] = omega arith
length-cut (c ∷ cs) = let h = length-cut cs in let k = length-kept c (cut cs) in omega arith

AreDigits-kept : (c : ℕ) (ds : List ℕ) → 48 ≤ c → c ≤ 57 → AreDigits ds → AreDigits (kept c ds)
AreDigits-kept c [] l h d =
    elim (cases_eq c 48) [
      | inl e ↦ rw (eq-eqb c 48 e) tt
      | inr n ↦ rw (ne_eqb c 48 n) (l, h, tt)
    ]
AreDigits-kept c (e ∷ es) l h d = (l, h, d)

pub AreDigits-cut : (xs : List ℕ) → AreDigits xs → AreDigits (cut xs)
AreDigits-cut [] d = tt
AreDigits-cut (c ∷ cs) d = AreDigits-kept c (cut cs) d.0 d.1 (AreDigits-cut cs d.2)

no_zero_end : (xs rest : List ℕ) → cut xs ≡ xs → xs ≢ rest ++ 48 ∷ []
no_zero_end xs rest same e =
    let f : cut (rest ++ 48 ∷ []) ≡ rest ++ 48 ∷ [] = subst (λ ys. cut ys ≡ ys) e same in
    let g : length (cut rest) ≡ length (rest ++ 48 ∷ []) = ap length (sym (cut_zero rest) ∙ f) in
    absurd (omega (arith, length-cut rest, length-append rest (48 ∷ [])))

pub IsFraction-cut : (xs : List ℕ) → AreDigits xs → IsFraction (cut xs)
IsFraction-cut xs d = (AreDigits-cut xs d, λ rest. no_zero_end (cut xs) rest (cut-cut xs))

kept-other : (c : ℕ) (cs : List ℕ) → ((rest : List ℕ) → c ∷ cs ≢ rest ++ 48 ∷ []) → kept c cs ≡ c ∷ cs
kept-other c [] n =
    elim (cases_eq c 48) [
      | inl e ↦ absurd (n [] (rw e refl))
      | inr h ↦ rw (ne_eqb c 48 h) refl
    ]
kept-other c (d ∷ ds) n = refl

-- a fraction is the one that is written for it
pub cut-same : (xs : List ℕ) → ((rest : List ℕ) → xs ≢ rest ++ 48 ∷ []) → cut xs ≡ xs
cut-same [] n = refl
cut-same (c ∷ cs) n = rw (cut-same cs (λ rest e. n (c ∷ rest) (ap (λ ys. c ∷ ys) e))) (kept-other c cs n)

pub strip-lead : (k : ℕ) (xs : List ℕ) → strip (replicate k 48 ++ xs) ≡ strip xs
strip-lead zero xs = refl
strip-lead (suc k) xs = strip-lead k xs

pub cut-pad : (xs : List ℕ) (k : ℕ) → cut (xs ++ replicate k 48) ≡ cut xs
cut-pad xs k = rw (cut-append xs (replicate k 48), cut-zeros_alone k) refl

-- digits of one length and number are the same
pub same_digits : (xs ys : List ℕ) → AreDigits xs → AreDigits ys → length xs ≡ length ys → number_in xs ≡ number_in ys → xs ≡ ys
same_digits [] [] d e l n = refl
same_digits [] (y ∷ ys) d e l n = absurd (omega arith)
same_digits (x ∷ xs) [] d e l n = absurd (omega arith)
same_digits (x ∷ xs) (y ∷ ys) d e l n =
    let k : length xs ≡ length ys = omega arith in
    let low = number_in-below xs d.2 in
    let also : number_in ys < 10 ^ length xs = rw k (number_in-below ys e.2) in
    let turned : (x - 48) * 10 ^ length xs + number_in xs ≡ (y - 48) * 10 ^ length xs + number_in ys = rw (← k) at n in
    let both = same_from_place (x - 48) (number_in xs) (y - 48) (number_in ys) (10 ^ length xs) low also turned in
    let p = d.0 in let q = e.0 in let r = both.0 in
    let head : x ≡ y = omega arith in
    let rest = same_digits xs ys d.2 e.2 k both.1 in
    cc

pub same_whole : (f g : List ℕ) → AreDigits f → AreDigits g → IsWholePart f → IsWholePart g → number_in f ≡ number_in g → f ≡ g
same_whole f g d e v w n =
    let same : replicate (length g) 48 ++ f ≡ replicate (length f) 48 ++ g =
    same_digits _ _ (AreDigits-append _ _ (AreDigits-zeros (length g)) d) (AreDigits-append _ _ (AreDigits-zeros (length f)) e)
    (omega (arith, length-append (replicate (length g) 48) f, length-append (replicate (length f) 48) g, length-replicate {A = ℕ} (length g) 48, length-replicate {A = ℕ} (length f) 48))
    (number_in-lead (length g) f ∙ n ∙ sym (number_in-lead (length f) g)) in
    let s : strip f ≡ strip g = sym (strip-lead (length g) f) ∙ ap strip same ∙ strip-lead (length f) g in
    sym (IsWholePart-same f v) ∙ ap or_zero s ∙ IsWholePart-same g w

pub same_fraction : (b c : List ℕ) → IsFraction b → IsFraction c → number_in b * 10 ^ length c ≡ number_in c * 10 ^ length b → b ≡ c
same_fraction b c v w n =
    let same : b ++ replicate (length c) 48 ≡ c ++ replicate (length b) 48 =
    same_digits _ _ (AreDigits-append _ _ v.0 (AreDigits-zeros (length c))) (AreDigits-append _ _ w.0 (AreDigits-zeros (length b)))
    (omega (arith, length-append b (replicate (length c) 48), length-append c (replicate (length b) 48), length-replicate {A = ℕ} (length c) 48, length-replicate {A = ℕ} (length b) 48))
    (number_in-pad b (length c) ∙ n ∙ sym (number_in-pad c (length b))) in
    sym (cut-same b v.1) ∙ sym (cut-pad b (length c)) ∙ ap cut same ∙ cut-pad c (length b) ∙ cut-same c w.1

-- no digit is a point
pub front-digits : (xs ys : List ℕ) → AreDigits xs → front_of (xs ++ 46 ∷ ys) ≡ xs
front-digits [] ys d = refl
front-digits (c ∷ cs) ys d = let h = d.0 in rw (ne_eqb c 46 (λ e. omega arith), front-digits cs ys d.2) refl

pub back-digits : (xs ys : List ℕ) → AreDigits xs → back_of (xs ++ 46 ∷ ys) ≡ ys
back-digits [] ys d = refl
back-digits (c ∷ cs) ys d = let h = d.0 in rw (ne_eqb c 46 (λ e. omega arith), back-digits cs ys d.2) refl

pub front-alone : (xs : List ℕ) → AreDigits xs → front_of xs ≡ xs
front-alone [] d = refl
front-alone (c ∷ cs) d = let h = d.0 in rw (ne_eqb c 46 (λ e. omega arith), front-alone cs d.2) refl

pub back-alone : (xs : List ℕ) → AreDigits xs → back_of xs ≡ []
back-alone [] d = refl
back-alone (c ∷ cs) d = let h = d.0 in rw (ne_eqb c 46 (λ e. omega arith)) (back-alone cs d.2)

pub front-pointed : (xs ys : List ℕ) → AreDigits xs → front_of (xs ++ pointed ys) ≡ xs
front-pointed xs [] d = rw (append-nil xs) (front-alone xs d)
front-pointed xs (y ∷ ys) d = front-digits xs (y ∷ ys) d

pub back-pointed : (xs ys : List ℕ) → AreDigits xs → back_of (xs ++ pointed ys) ≡ ys
back-pointed xs [] d = rw (append-nil xs) (back-alone xs d)
back-pointed xs (y ∷ ys) d = back-digits xs (y ∷ ys) d
