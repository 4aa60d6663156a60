-- Texts of printable ASCII characters, such as numbers, are of allowed characters.
use Rattle.std.proofs.Common.{◌≡◌, ◌∙◌, ap, refl, ℕ, Bool, true, false, cond, not, List, [], ◌∷◌, ◌++◌, Option, None, Some, arith, bytes_eq, codes}
use Rattle.std.specs.List.{All, list_all}
use Rattle.std.specs.Prelude.{◌&&◌, ◌||◌, ◌==◌, nat_le}
use Rattle.std.specs.Str.{IsAscii}
use Rattle.std.proofs.lemmas.Bool.{and_from, and_parts, eqb-true, leb-true}
use Rattle.std.proofs.lemmas.Bool.Decides.{nat_tests}
use Rattle.std.proofs.lemmas.List.Elements.{All-cons, All-nil}
use Rattle.std.proofs.lemmas.Slice.Eq.{bytes_eq-Decides}
use Rattle.std.proofs.lemmas.Str.{IsUtf8-from_ascii, chars-IsAscii}
use Rattle.std.proofs.lemmas.Str.Ascii.{IsAscii-cons, IsAscii-nil}
use Rattle.ix_base.specs.declared.content.Accuracy.{Accuracy}
use Rattle.ix_base.specs.declared.content.Accuracy.TheVariants as accuracy
use Rattle.ix_base.specs.declared.content.Value.{Value}
use Rattle.ix_base.specs.declared.content.Value.TheVariants as value
use Rattle.ix_base.specs.Decimals.{back_of, front_of, pointed}
use Rattle.ix_base.specs.Forms.{is_canonical_decimal, is_canonical_unsigned, is_digit, is_empty, is_fraction_part, is_normal_integer, is_whole_part, is_zero}
use Rattle.ix_base.specs.NcName.{are_allowed, is_allowed}
use Rattle.facts.proofs.PlainLaws.{digit-plain, is_plain, plain-append}
use Rattle.instance_lines.specs.Holdings.{accuracy_texts}
use Rattle.instance_out.specs.Proper.{is_exact, is_numeric}
use Rattle.targets.proofs.AllowedLaws.{allowed-from}

plain-ascii : (t : List ℕ) → list_all is_plain t ≡ true → IsAscii t
plain-ascii [] h = IsAscii-nil
plain-ascii (c ∷ t) h =
    let z = and_parts (is_plain c) (list_all is_plain t) h in
    let y = leb-true c 126 (and_parts (nat_le 32 c) (nat_le c 126) z.0).1 in
    IsAscii-cons c t (omega arith) (plain-ascii t z.1)

plain-char : (c : ℕ) → is_plain c ≡ true → is_allowed c ≡ true
unfolding is_allowed
plain-char c h =
    let z = and_parts (nat_le 32 c) (nat_le c 126) h in
    let low = leb-true 32 c z.0 in
    let high = leb-true c 126 z.1 in
    grind (arith, nat_tests)

plain-chars : (t : List ℕ) → list_all is_plain t ≡ true → list_all is_allowed t ≡ true
plain-chars [] h = refl
plain-chars (c ∷ t) h = let z = and_parts (is_plain c) (list_all is_plain t) h in and_from _ _ (plain-char c z.0) (plain-chars t z.1)

pub plain-allowed : (t : List ℕ) → list_all is_plain t ≡ true → are_allowed t ≡ true
plain-allowed t h =
    let a = plain-ascii t h in
    allowed-from t (IsUtf8-from_ascii t a) (ap (list_all is_allowed) (chars-IsAscii t a) ∙ plain-chars t h)

-- Numbers.

pub digits-plain : (t : List ℕ) → list_all is_digit t ≡ true → list_all is_plain t ≡ true
digits-plain [] h = refl
digits-plain (c ∷ t) h = let z = and_parts (is_digit c) (list_all is_digit t) h in and_from _ _ (digit-plain c z.0) (digits-plain t z.1)

whole-plain : (t : List ℕ) → is_whole_part t ≡ true → list_all is_plain t ≡ true
whole-plain [] h = absurd (cc)
whole-plain (c ∷ []) h = and_from _ _ (digit-plain c h) refl
whole-plain (c ∷ d ∷ t) h =
    let z = and_parts (is_digit c && not (c == 48)) (list_all is_digit (d ∷ t)) h in
    and_from _ _ (digit-plain c (and_parts (is_digit c) (not (c == 48)) z.0).0) (digits-plain (d ∷ t) z.1)

fraction-plain : (t : List ℕ) → is_fraction_part t ≡ true → list_all is_plain t ≡ true
fraction-plain [] h = refl
fraction-plain (c ∷ []) h = and_from _ _ (digit-plain c (and_parts (is_digit c) (not (c == 48)) h).0) refl
fraction-plain (c ∷ d ∷ t) h =
    let z = and_parts (is_digit c) (is_fraction_part (d ∷ t)) h in
    and_from _ _ (digit-plain c z.0) (fraction-plain (d ∷ t) z.1)

pointed-plain : (t : List ℕ) → list_all is_plain t ≡ true → list_all is_plain (pointed t) ≡ true
pointed-plain [] h = refl
pointed-plain (c ∷ t) h = h

unsigned-plain : (t : List ℕ) → is_canonical_unsigned t ≡ true → list_all is_plain t ≡ true
unsigned-plain t h =
    let f = front_of t in
    let b = back_of t in
    let z = and_parts (is_whole_part f && is_fraction_part b) (bytes_eq t (f ++ pointed b)) h in
    let y = and_parts (is_whole_part f) (is_fraction_part b) z.0 in
    ap (list_all is_plain) ((bytes_eq-Decides t (f ++ pointed b)).0 z.1)
    ∙ plain-append f (pointed b) (whole-plain f y.0) (pointed-plain b (fraction-plain b y.1))

decimal-plain : (t : List ℕ) → is_canonical_decimal t ≡ true → list_all is_plain t ≡ true
decimal-plain [] h = absurd (cc)
decimal-plain (c ∷ cs) h = by (c == 45) refl h
  where
    by : (b : Bool) → (c == 45) ≡ b → cond b (is_canonical_unsigned cs && not (is_zero cs)) (is_canonical_unsigned (c ∷ cs)) ≡ true
        → list_all is_plain (c ∷ cs) ≡ true
    by true e k =
        let minus : is_plain c ≡ true = ap is_plain (eqb-true c 45 e) in
        and_from _ _ minus (unsigned-plain cs (and_parts (is_canonical_unsigned cs) (not (is_zero cs)) k).0)
    by false e k = unsigned-plain (c ∷ cs) k

pub decimal-allowed : (t : List ℕ) → is_canonical_decimal t ≡ true → are_allowed t ≡ true
decimal-allowed t h = plain-allowed t (decimal-plain t h)

infinite-plain : list_all is_plain (codes "INF") ≡ true
infinite-plain = refl

or-cases : (a b : Bool) (t : List ℕ) → (a || b) ≡ true → (a ≡ true → are_allowed t ≡ true) → (b ≡ true → are_allowed t ≡ true) → are_allowed t ≡ true
or-cases true b t h f g = f refl
or-cases false b t h f g = g h

infinite-allowed : (t : List ℕ) → bytes_eq t (codes "INF") ≡ true → are_allowed t ≡ true
infinite-allowed t h = ap are_allowed ((bytes_eq-Decides t (codes "INF")).0 h) ∙ plain-allowed (codes "INF") infinite-plain

abbrev IsAllowed : List ℕ → Type 0
IsAllowed t = are_allowed t ≡ true

exact-allowed : (a : Accuracy) → is_exact a ≡ true → All IsAllowed (accuracy_texts (Some a))
exact-allowed (accuracy.Decimals n) h =
    All-cons IsAllowed n []
    (or-cases (bytes_eq n (codes "INF")) (is_normal_integer n) n h (infinite-allowed n)
    (λ k. decimal-allowed n (and_parts (is_canonical_decimal n) (is_empty (back_of n)) k).0))
    (All-nil IsAllowed)
exact-allowed (accuracy.Precision n) h =
    All-cons IsAllowed n []
    (or-cases (bytes_eq n (codes "INF")) (is_whole_part n) n h (infinite-allowed n) (λ k. plain-allowed n (whole-plain n k)))
    (All-nil IsAllowed)

-- how exact a number is
pub accuracy-allowed : (u : Option (List ℕ)) (v : Value) (a : Option Accuracy) → is_numeric u v a ≡ true → All IsAllowed (accuracy_texts a)
accuracy-allowed u v None h = All-nil IsAllowed
accuracy-allowed None v (Some a) h = absurd (cc)
accuracy-allowed (Some u) value.Nil (Some a) h = absurd (cc)
accuracy-allowed (Some u) (value.Fraction n d) (Some a) h = absurd (cc)
accuracy-allowed (Some u) (value.Plain t) (Some a) h = exact-allowed a (and_parts (is_exact a) (is_canonical_decimal t) h).0
