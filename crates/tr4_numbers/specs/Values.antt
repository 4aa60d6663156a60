-- What each value of a number looks like.
use Rattle.std.specs.Prelude.{◌≡◌, ◌≢◌, ℕ, ◌⊎◌, List, [], ◌∷◌, ◌++◌}
use Rattle.tr4_numbers.specs.Transformation.{AreDigits}

-- an unsigned decimal: digits, digits `.`, digits `.` digits, or `.` digits
pub record IsUnsignedDecimal (text : List ℕ) : Type 0 where
  pub front : List ℕ
  pub back : List ℕ
  pub some : front ++ back ≢ []
  pub digits : AreDigits (front ++ back)
  pub spelled : (text ≡ front ++ 46 ∷ back) ⊎ ((text ≡ front) × (back ≡ []))
