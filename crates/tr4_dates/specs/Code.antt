-- What the code's words mean.
use Rattle.std.specs.Prelude.{Bool, ℕ, List, map, chars}
use Rattle.std.specs.Borrow.{Bor}
use Rattle.tr4_dates.specs.Languages.{Row}
use Rattle.tr4_dates.specs.declared.run.Set.{Set}
use Rattle.tr4_dates.specs.declared.run.Set.TheVariants.{Digits, Letters, Others, Signs, Alphanumerics}
use Rattle.tr4_dates.specs.Runs.{Class, digits, letters, others, signs, alphanumerics}

abbrev pub set_named : Set → Class → Bool
set_named Digits = digits
set_named Letters = letters
set_named Others = others
set_named Signs = signs
set_named Alphanumerics = alphanumerics

-- the rows of a table
abbrev pub rows_of : List (Bor (List ℕ) × ℕ) → List Row
rows_of = map (λ row. (chars row.0.now, row.1))
