-- The day number of 0001-01-01.
use Rattle.std.proofs.Common.{◌≡◌, pos, neg_ℤ, refl, arith}
use Rattle.jiff_core.specs.Calendar.{day_count, days_from_civil}
use Rattle.jiff_core.proofs.MarchLemmas.{day_count-early}
use Rattle.jiff_core.proofs.CalendarLemmas.{days_from_civil-day_count}
use Rattle.jiff.proofs.SpanFacts.{signed_arith}
use Rattle.jiff.specs.Words.{epoch_day, IsYmd}
use Rattle.jiff.specs.Types.{Date}

pub first_count : day_count (pos 1) 1 1 ≡ 3652791
first_count = day_count-early (pos 1) 10000 1 1 refl (omega arith) (omega arith) (omega arith)

first_number : days_from_civil (pos 1) 1 1 ≡ neg_ℤ (pos 719162)
first_number = omega (arith, signed_arith, days_from_civil-day_count (pos 1) 1 1, first_count)

pub first_day_number : (d : Date) → IsYmd (pos 1) (pos 1) (pos 1) d → epoch_day d ≡ neg_ℤ (pos 719162)
first_day_number d ymd =
    let month : d.month ≡ 1 = omega (arith, signed_arith, ymd.1) in
    let day : d.day ≡ 1 = omega (arith, signed_arith, ymd.2) in
    rw (ymd.0, month, day) first_number
