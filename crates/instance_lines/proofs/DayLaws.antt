-- Days of the calendar, and moments that can be written.
use Rattle.std.proofs.Common.{ℕ, ◌≤◌, ◌<◌, pos, arith}
use Rattle.jiff_core.specs.Calendar.{IsCivilDate}
use Rattle.jiff.proofs.SpanFacts.{signed_arith}
use Rattle.ix_base.specs.Days.{IsDay}
use Rattle.instance_lines.specs.Writable.{IsEnd, IsStart}

pub is_civil : (year month day : ℕ) → IsDay year month day → IsCivilDate (pos year) month day
is_civil year month day real =
    let date = real.2 in
    (date.0, (omega (arith, signed_arith, date.1), omega (arith, signed_arith, date.1)), (omega (arith, signed_arith, date.2), omega (arith, signed_arith, date.2)))

-- moments by the seconds from the start of 0001-01-01
pub end-is_end : (n : ℕ) → 0 < n → n ≤ 315537897600 → IsEnd (pos n)
end-is_end n some most = record { after = omega (arith, signed_arith); most = omega (arith, signed_arith) }

pub start-is_start : (n : ℕ) → n < 315537897600 → IsStart (pos n)
start-is_start n before = record { least = omega (arith, signed_arith); before = omega (arith, signed_arith) }
