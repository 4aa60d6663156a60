-- A number is ASCII text.
use Rattle.std.proofs.Common.{ℕ, ℤ, Bool, true, false, ◌<◌, ◌++◌, List, [], ◌∷◌, get_or, zero, suc, arith}
use Rattle.std.specs.Str.{IsUtf8}
use Rattle.std.proofs.lemmas.Str.{IsUtf8-from_ascii}
use Rattle.ix_base.specs.Decimals.{AreDigits, pointed, IsCanonical}
use Rattle.scale_sign.specs.Scaled.{signed, IsNumber}
use Rattle.scale_sign.proofs.Laws.{whole-digits}

-- each byte is below 128
abbrev pub AreBelow : List ℕ → Type 0
AreBelow bytes = (i : ℕ) → get_or bytes i 0 < 128

below-more : (c : ℕ) (cs : List ℕ) → c < 128 → AreBelow cs → AreBelow (c ∷ cs)
below-more c cs h b zero = h
below-more c cs h b (suc i) = b i

below-digits : (cs : List ℕ) → AreDigits cs → AreBelow cs
below-digits [] d i = omega arith
below-digits (c ∷ cs) d i = let h = d.1 in below-more c cs (omega arith) (below-digits cs d.2) i

below-pointed : (back : List ℕ) → AreDigits back → AreBelow (pointed back)
below-pointed [] d i = omega arith
below-pointed (c ∷ cs) d i = below-more 46 (c ∷ cs) (omega arith) (below-digits (c ∷ cs) d) i

below-parts : (front back : List ℕ) → AreDigits front → AreDigits back → AreBelow (front ++ pointed back)
below-parts [] back d e i = below-pointed back e i
below-parts (c ∷ cs) back d e i = let h = d.1 in below-more c (cs ++ pointed back) (omega arith) (below-parts cs back d.2 e) i

below-signed : (sign : Bool) (body : List ℕ) → AreBelow body → AreBelow (signed sign body)
below-signed true body b i = below-more 45 body (omega arith) b i
below-signed false body b i = b i

below-canonical : (text : List ℕ) → IsCanonical text → AreBelow text
below-canonical text k = rw (k.spelled) (below-parts k.front k.back (whole-digits k.front k.leads) k.ends.0)

pub number-text : (digits : List ℕ) (scale : ℤ) (negative : Bool) (text : List ℕ) → IsNumber digits scale negative text → IsUtf8 text
number-text digits scale negative text n = rw (n.spelled) (IsUtf8-from_ascii _ (below-signed _ n.body (below-canonical n.body n.canonical)))
