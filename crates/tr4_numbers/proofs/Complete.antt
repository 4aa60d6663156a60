-- What a format relates to a text is read of it, and so is one value.
use Rattle.std.proofs.Common.{◌≡◌, ℕ, List, Some}
use Rattle.tr4_numbers.specs.declared.NumberFormat.{NumberFormat}
use Rattle.tr4_numbers.specs.declared.NumberFormat.TheVariants as N
use Rattle.tr4_numbers.specs.Transformation.{IsValue}
use Rattle.tr4_numbers.specs.Readers.{first, read}
use Rattle.tr4_numbers.proofs.CompleteDecimal.{complete-decimal}
use Rattle.tr4_numbers.proofs.CompleteUnits.{complete-units}

pub complete : (f : NumberFormat) (text v : List ℕ) → IsValue f text v → read f text (first f) ≡ Some v
complete N.Dot text v w = complete-decimal N.Dot text v w
complete N.Comma text v w = complete-decimal N.Comma text v w
complete N.Unit text v w = complete-units N.Unit text v w

pub one_value : (f : NumberFormat) (text v w : List ℕ) → IsValue f text v → IsValue f text w → v ≡ w
one_value f text v w p q = let e = complete f text v p in let g = complete f text w q in cc
