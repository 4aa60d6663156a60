-- A value is an unsigned decimal, and ASCII text.
use Rattle.std.proofs.Common.{◌≢◌, ℕ, ◌<◌, IsTrue, List, [], ◌∷◌, ◌++◌, get_or, zero, suc, refl, inl, inr, arith}
use Rattle.std.proofs.lemmas.List.{append-nil}
use Rattle.std.proofs.lemmas.Bool.Decides.{nat_tests}
use Rattle.std.proofs.lemmas.Str.{IsUtf8-from_ascii}
use Rattle.std.specs.Str.{IsUtf8}
use Rattle.tr4_numbers.specs.declared.NumberFormat.{NumberFormat}
use Rattle.tr4_numbers.specs.declared.NumberFormat.TheVariants as N
use Rattle.tr4_numbers.specs.Transformation.{is_digit, AreDigits, Follow, Grouped, AreCents, two, IsDecimal, IsUnits, IsValue}
use Rattle.tr4_numbers.specs.Values.{IsUnsignedDecimal}

AreDigits-append : (xs ys : List ℕ) → AreDigits xs → AreDigits ys → AreDigits (xs ++ ys)
AreDigits-append [] ys d e = e
AreDigits-append (c ∷ cs) ys d e = (d.0, AreDigits-append cs ys d.1 e)

AreDigits-left : (xs ys : List ℕ) → AreDigits (xs ++ ys) → AreDigits xs
AreDigits-left [] ys d = tt
AreDigits-left (c ∷ cs) ys d = (d.0, AreDigits-left cs ys d.1)

follow-digits : (f : NumberFormat) (ds text : List ℕ) → Follow f ds text → AreDigits ds
follow-digits f [] text h = tt
follow-digits f (d ∷ ds) text (gap, rest, g, digit, e, more) = (digit, follow-digits f ds rest more)

grouped-digits : (f : NumberFormat) (ds text : List ℕ) → Grouped f ds text → AreDigits ds × (ds ≢ [])
grouped-digits f [] text h = elim h [ ]
grouped-digits f (d ∷ ds) text (rest, digit, e, more) = ((digit, follow-digits f ds rest more), λ k. cc)

joined-some : (xs ys : List ℕ) → xs ≢ [] → xs ++ ys ≢ []
joined-some [] ys n e = n refl
joined-some (x ∷ xs) ys n e = cc

two-digits : (cents : List ℕ) → AreCents cents → AreDigits (two cents)
two-digits [] d = elim d [ ]
two-digits (c ∷ []) d = (refl, (d, tt))
two-digits (c ∷ e ∷ []) d = (d.0, (d.1, tt))
two-digits (c ∷ e ∷ g ∷ cs) d = elim d [ ]

decimal-unsigned : (f : NumberFormat) (text v : List ℕ) → IsDecimal f text v → IsUnsignedDecimal v
decimal-unsigned f text v w = elim w [
  | inl k ↦ (let g = grouped-digits f v text k.grouped in
      record { front = v; back = []; some = rw (append-nil v) g.1; digits = rw (append-nil v) g.0; spelled = inr (refl, refl) })
  | inr r ↦ elim r [
    | inl k ↦ (let g = grouped-digits f k.digits k.spelled k.grouped in
        record {
          front = k.digits;
          back = k.back;
          some = joined-some k.digits k.back g.1;
          digits = AreDigits-append k.digits k.back g.0 k.fraction;
          spelled = inl k.value_is;
        })
    | inr k ↦
        record { front = 48 ∷ []; back = k.back; some = λ e. cc; digits = (refl, k.fraction); spelled = inl k.value_is }
  ]
]

units-unsigned : (f : NumberFormat) (text v : List ℕ) → IsUnits f text v → IsUnsignedDecimal v
units-unsigned f text v k =
    let g = grouped-digits f k.digits k.spelled k.grouped in
    record {
      front = k.digits;
      back = two k.cents;
      some = joined-some k.digits (two k.cents) g.1;
      digits = AreDigits-append k.digits (two k.cents) g.0 (two-digits k.cents k.are_cents);
      spelled = inl k.value_is;
    }

pub value-unsigned : (f : NumberFormat) (text v : List ℕ) → IsValue f text v → IsUnsignedDecimal v
value-unsigned N.Dot text v w = decimal-unsigned N.Dot w.number v w.row
value-unsigned N.Comma text v w = decimal-unsigned N.Comma w.number v w.row
value-unsigned N.Unit text v w = units-unsigned N.Unit w.number v w.row

digit-below : (c : ℕ) → IsTrue (is_digit c) → c < 128
digit-below c d = grind (arith, nat_tests)

-- each byte is below 128
digits-below : (cs : List ℕ) → AreDigits cs → (i : ℕ) → get_or cs i 0 < 128
digits-below [] d i = omega arith
digits-below (c ∷ cs) d zero = digit-below c d.0
digits-below (c ∷ cs) d (suc i) = digits-below cs d.1 i

spelled-below : (front back : List ℕ) → AreDigits (front ++ back) → (i : ℕ) → get_or (front ++ 46 ∷ back) i 0 < 128
spelled-below [] back d zero = omega arith
spelled-below [] back d (suc i) = digits-below back d i
spelled-below (c ∷ cs) back d zero = digit-below c d.0
spelled-below (c ∷ cs) back d (suc i) = spelled-below cs back d.1 i

unsigned-text : (v : List ℕ) → IsUnsignedDecimal v → IsUtf8 v
unsigned-text v u = elim u.spelled [
  | inl e ↦ rw e (IsUtf8-from_ascii (u.front ++ 46 ∷ u.back) (spelled-below u.front u.back u.digits))
  | inr e ↦ (let d : AreDigits v = rw (e.0) (AreDigits-left u.front u.back u.digits) in IsUtf8-from_ascii v (digits-below v d))
]

pub value-text : (f : NumberFormat) (text v : List ℕ) → IsValue f text v → IsUtf8 v
value-text f text v w = unsigned-text v (value-unsigned f text v w)
