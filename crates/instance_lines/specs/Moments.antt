-- Times as they are written in a period (XBRL 2.1, section 4.7.2).
use Rattle.std.specs.Prelude.{ℕ, ◌+◌, ◌-◌, ◌/◌, ◌%◌, ◌==◌, List, [], ◌∷◌, ◌++◌, if◌then◌else◌, ℤ, unsigned_abs}
use Rattle.ix_base.specs.Days.{Day, day_at}

-- a number below 100 in two digits
abbrev pub two_digits : ℕ → List ℕ
two_digits n = (48 + n / 10) ∷ (48 + n % 10) ∷ []

-- a number below 10,000 in four digits
abbrev pub four_digits : ℕ → List ℕ
four_digits n = two_digits (n / 100) ++ two_digits (n % 100)

-- `YYYY-MM-DD`
abbrev pub date_text : Day → List ℕ
date_text d = four_digits d.year ++ 45 ∷ (two_digits d.month ++ 45 ∷ two_digits d.day)

-- `hh:mm:ss`, of seconds in a day
abbrev pub clock_text : ℕ → List ℕ
clock_text s = two_digits (s / 3600) ++ 58 ∷ (two_digits (s / 60 % 60) ++ 58 ∷ two_digits (s % 60))

-- `YYYY-MM-DDThh:mm:ss`, of seconds from the start of 0001-01-01
abbrev pub time_text : ℕ → List ℕ
time_text s = date_text (day_at (s / 86400)) ++ 84 ∷ clock_text (s % 86400)

-- a start: at midnight its day
abbrev pub start_text : ℤ → List ℕ
start_text s = let n = unsigned_abs s in if n % 86400 == 0 then date_text (day_at (n / 86400)) else time_text n

-- an instant or an end: at midnight the day before
abbrev pub end_text : ℤ → List ℕ
end_text s = let n = unsigned_abs s in if n % 86400 == 0 then date_text (day_at (n / 86400 - 1)) else time_text n
