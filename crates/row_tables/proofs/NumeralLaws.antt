-- A numeral is a text.
use Rattle.std.proofs.Common.{◌≡◌, refl, ℕ, List, [], ◌∷◌, Bool, true, false, arith, ◌==◌, if◌then◌else◌}
use Rattle.std.specs.Prelude.{IsUtf8, IsAscii}
use Rattle.std.specs.Str.Parse.{AllDigits, without_leading_plus}
use Rattle.std.proofs.Math.ListN.{drop}
use Rattle.std.proofs.lemmas.Bool.{eqb-true}
use Rattle.std.proofs.lemmas.Str.{IsUtf8-from_ascii}
use Rattle.std.proofs.lemmas.Str.Ascii.{IsAscii-nil, IsAscii-cons}
use Rattle.std.proofs.lemmas.Str.Parse.{digit_from_value}

digits_ascii : (ds : List ℕ) → AllDigits 10 ds → IsAscii ds
digits_ascii [] h = IsAscii-nil
digits_ascii (c ∷ cs) h = IsAscii-cons c cs (let r = digit_from_value c h.0 in omega arith) (digits_ascii cs h.1)

behind_plus : (plus : Bool) (b : ℕ) (bs : List ℕ) → (b == 43) ≡ plus → AllDigits 10 (drop (if plus then 1 else 0) (b ∷ bs)) → IsAscii (b ∷ bs)
behind_plus true b bs e h = IsAscii-cons b bs (omega (arith, eqb-true b 43 e)) (digits_ascii bs h)
behind_plus false b bs e h = digits_ascii (b ∷ bs) h

-- digits are a text, behind a plus, too
pub utf8_from_numeral : (bs : List ℕ) → AllDigits 10 (without_leading_plus bs) → IsUtf8 bs
utf8_from_numeral [] h = IsUtf8-from_ascii [] IsAscii-nil
utf8_from_numeral (b ∷ bs) h = IsUtf8-from_ascii (b ∷ bs) (behind_plus (b == 43) b bs refl h)
