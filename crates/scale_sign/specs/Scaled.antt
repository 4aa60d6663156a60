-- The scaled number: what a decimal without sign, a scale and a sign stand for, as a text.
use Rattle.std.specs.Prelude.{◌≡◌, ℕ, ℤ, pos, negsuc, ◌+◌, ◌*◌, ◌^◌, ◌==◌, ◌&&◌, not, Bool, if◌then◌else◌, List, ◌∷◌}
use Rattle.ix_base.specs.Decimals.{whole, behind, IsCanonical}

-- the decimal `body` is `digits` times ten to the power of the scale, said over whole numbers of any size
abbrev pub IsMoved : List ℕ → ℤ → List ℕ → Type 0
IsMoved digits (pos s) body = whole body * 10 ^ behind digits ≡ whole digits * 10 ^ (behind body + s)
IsMoved digits (negsuc s) body = whole body * 10 ^ (behind digits + (s + 1)) ≡ whole digits * 10 ^ behind body

-- a `-` in front where the number is negative
abbrev pub signed : Bool → List ℕ → List ℕ
signed negative body = if negative then 45 ∷ body else body

-- the text is the canonical decimal of the digits, moved by the scale and signed
pub record IsNumber (digits : List ℕ) (scale : ℤ) (negative : Bool) (text : List ℕ) : Type 0 where
  pub body : List ℕ
  pub canonical : IsCanonical body
  pub moved : IsMoved digits scale body
  pub spelled : text ≡ signed (negative && not (whole digits == 0)) body
