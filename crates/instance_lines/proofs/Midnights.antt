-- Days that are printed.
use Rattle.std.proofs.Common.{◌≡◌, ℕ, pos, neg_ℤ, ◌+ℤ◌, refl}
use Rattle.jiff.specs.Words.{epoch_day, date_text as printed}
use Rattle.jiff.specs.Types.{Date}
use Rattle.ix_base.specs.Days.{day_at}
use Rattle.instance_lines.specs.Moments.{date_text}
use Rattle.instance_lines.proofs.Calendar.{day_at-date}

-- a date with so many days before it is printed as that day is written
pub printed_at : (d : Date) (k : ℕ) → epoch_day d ≡ neg_ℤ (pos 719162) +ℤ pos k → printed d ≡ date_text (day_at k)
printed_at d k e = let p = day_at-date d k e in rw (p.0, p.1, p.2) refl
