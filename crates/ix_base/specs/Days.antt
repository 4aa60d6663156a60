-- Days of the calendar that ISO 8601 extends to all years.
use Rattle.std.specs.Prelude.{ℕ, zero, suc, ◌+◌, ◌-◌, ◌≤◌, nat_lt, if◌then◌else◌, pos}
use Rattle.jiff_core.specs.Calendar.{IsDate, day_count, days_in_month}

-- a real day of the years 0001 to 9999
abbrev pub IsDay : ℕ → ℕ → ℕ → Type 0
IsDay year month day = (1 ≤ year) × (year ≤ 9999) × IsDate (pos year) (pos month) (pos day)

-- how many days there are from 0001-01-01 to this day
abbrev pub days_before : ℕ → ℕ → ℕ → ℕ
days_before year month day = day_count (pos year) month day - day_count (pos 1) 1 1

pub record Day : Type 0 where
  pub year : ℕ
  pub month : ℕ
  pub day : ℕ

-- the day after a day
abbrev pub next_day : Day → Day
next_day d =
    if nat_lt d.day (days_in_month (pos d.year) d.month) then record d { day = d.day + 1 }
    else (if nat_lt d.month 12 then record { year = d.year; month = d.month + 1; day = 1 }
    else record { year = d.year + 1; month = 1; day = 1 })

-- the day so many days after 0001-01-01
unfoldable pub day_at : ℕ → Day
day_at zero = record { year = 1; month = 1; day = 1 }
day_at (suc n) = next_day (day_at n)
