-- Times are read as they are written.
use Rattle.std.proofs.Common.{◌≡◌, ◌≢◌, ◌∙◌, ℕ, ◌+◌, ◌-◌, ◌*◌, ◌/◌, ◌%◌, ◌<◌, ◌≤◌, ◌==◌, nat_le, Bool, true, false, if◌then◌else◌, pos, ◌∷◌, get_or, Some, refl, ap, arith, codes, bytes_eq}
use Rattle.std.specs.List.{list_all}
use Rattle.std.proofs.lemmas.Bool.{le-leb}
use Rattle.std.proofs.lemmas.Bool.Decides.{nat_tests}
use Rattle.std.proofs.lemmas.Int.{by_lt_z}
use Rattle.jiff_core.specs.Calendar.{IsCivilDate, day_count, days_of_years, days_of_months, days_in_month}
use Rattle.jiff_core.proofs.CalendarLemmas.{days_in_month_bounds, day_count-lt_year}
use Rattle.jiff.proofs.SpanFacts.{signed_arith}
use Rattle.ix_base.specs.Days.{Day, day_at, days_before}
use Rattle.ix_base.specs.Forms.{is_digit}
use Rattle.ix_base.specs.Times.{is_like, is_day, number_at, day_of, clock_of, time_of, start_time, end_time}
use Rattle.ix_base.specs.Token.{token_of}
use Rattle.instance_lines.specs.Moments.{date_text, clock_text, time_text, start_text, end_text}
use Rattle.instance_lines.proofs.Calendar.{IsProper, day_at-is}
use Rattle.page_constructs.proofs.AllowedText.{all-append}
use Rattle.page_constructs.proofs.SpanLaws.{bytes-apart}
use Rattle.instance_out.proofs.TokenLaws.{IsDark, token-dark}

digit : (n : ℕ) → n ≤ 9 → is_digit (48 + n) ≡ true
digit n h = rw (le-leb 48 (48 + n) (omega arith), le-leb (48 + n) 57 (omega arith)) refl

-- Days.

date-like : (d : Day) → d.year ≤ 9999 → d.month ≤ 99 → d.day ≤ 99 → is_like (codes "0000-00-00") (date_text d) ≡ true
date-like d y m a = rw (
  digit (d.year / 100 / 10) (omega arith),
  digit (d.year / 100 % 10) (omega arith),
  digit (d.year % 100 / 10) (omega arith),
  digit (d.year % 100 % 10) (omega arith),
  digit (d.month / 10) (omega arith),
  digit (d.month % 10) (omega arith),
  digit (d.day / 10) (omega arith),
  digit (d.day % 10) (omega arith),
) refl

date-year : (d : Day) → d.year ≤ 9999 → number_at 0 4 (date_text d) ≡ d.year
date-year d h = omega arith

date-month : (d : Day) → d.month ≤ 99 → number_at 5 2 (date_text d) ≡ d.month
date-month d h = omega arith

date-day : (d : Day) → d.day ≤ 99 → number_at 8 2 (date_text d) ≡ d.day
date-day d h = omega arith

proper-day : (d : Day) → IsProper d → d.year ≤ 9999 → is_day d.year d.month d.day ≡ true
proper-day d p y = rw (
  le-leb 1 d.year p.year,
  le-leb d.year 9999 y,
  le-leb 1 d.month p.month,
  le-leb d.month 12 p.months,
  le-leb 1 d.day p.day,
  le-leb d.day (days_in_month (pos d.year) d.month) p.days,
) refl

pub proper-below : (d : Day) → IsProper d → d.day ≤ 99
proper-below d p = let b = days_in_month_bounds (pos d.year) d.month in omega (arith, p.days)

day-read : (d : Day) → IsProper d → d.year ≤ 9999 → day_of (date_text d) ≡ Some (days_before d.year d.month d.day)
day-read d p y =
    let m : d.month ≤ 99 = omega (arith, p.months) in
    let a = proper-below d p in
    rw (date-like d y m a, date-year d y, date-month d m, date-day d a, proper-day d p y) refl

first_count : day_count (pos 1) 1 1 ≡ 3652791
unfolding day_at
first_count = (day_at-is 0).count

last_count : day_count (pos 9999) 12 31 ≡ 7304849
unfolding day_count days_of_years days_of_months
last_count = refl

pub year-below : (k : ℕ) → k ≤ 3652058 → (day_at k).year ≤ 9999
year-below k h =
    let at = day_at-is k in
    let p = at.proper in
    let civil : IsCivilDate (pos 9999) 12 31 = (omega (arith, signed_arith), (omega arith, omega arith), (omega arith, omega arith)) in
    by_lt_z (pos 9999) (pos (day_at k).year)
    (λ lt. absurd (let more = day_count-lt_year (pos 9999) 12 31 (pos (day_at k).year) (day_at k).month (day_at k).day civil p.day lt in omega (arith, at.count, last_count)))
    (λ ge. omega (arith, signed_arith))

-- the day that is so many days after the first
pub day_at-read : (k : ℕ) → k ≤ 3652058 → day_of (date_text (day_at k)) ≡ Some k
day_at-read k h =
    let at = day_at-is k in
    let n : days_before (day_at k).year (day_at k).month (day_at k).day ≡ k = omega (arith, at.count, first_count) in
    day-read (day_at k) at.proper (year-below k h) ∙ ap Some n

-- Times of a day.

clock-like : (s : ℕ) → s < 86400 → is_like (codes "T00:00:00") (84 ∷ clock_text s) ≡ true
clock-like s h = rw (
  digit (s / 3600 / 10) (omega arith),
  digit (s / 3600 % 10) (omega arith),
  digit (s / 60 % 60 / 10) (omega arith),
  digit (s / 60 % 60 % 10) (omega arith),
  digit (s % 60 / 10) (omega arith),
  digit (s % 60 % 10) (omega arith),
) refl

clock-early : (s : ℕ) → s < 86400 → bytes_eq (84 ∷ clock_text s) (codes "T24:00:00") ≡ false
clock-early s h = bytes-apart (84 ∷ clock_text s) (codes "T24:00:00") (λ e.
    let tens : 48 + s / 3600 / 10 ≡ 50 = ap (λ l. get_or l 1 0) e in
    let ones : 48 + s / 3600 % 10 ≡ 52 = ap (λ l. get_or l 2 0) e in
    omega arith)

clock-hours : (s : ℕ) → s < 86400 → number_at 1 2 (84 ∷ clock_text s) ≡ s / 3600
clock-hours s h = omega arith

clock-minutes : (s : ℕ) → number_at 4 2 (84 ∷ clock_text s) ≡ s / 60 % 60
clock-minutes s = omega arith

clock-seconds : (s : ℕ) → number_at 7 2 (84 ∷ clock_text s) ≡ s % 60
clock-seconds s = omega arith

clock-read : (s : ℕ) → s < 86400 → clock_of (84 ∷ clock_text s) ≡ Some s
clock-read s h =
    let sum : s / 3600 * 3600 + s / 60 % 60 * 60 + s % 60 ≡ s = omega arith in
    rw (
      clock-early s h,
      clock-like s h,
      clock-hours s h,
      clock-minutes s,
      clock-seconds s,
      le-leb (s / 3600) 23 (omega arith),
      le-leb (s / 60 % 60) 59 (omega arith),
      le-leb (s % 60) 59 (omega arith),
      sum,
    ) refl

-- Times.

split-day : (n : ℕ) → n / 86400 * 86400 + n % 86400 ≡ n
split-day n = omega arith

time-read : (alone n : ℕ) → n / 86400 ≤ 3652058 → time_of alone (time_text n) ≡ Some n
time-read alone n h = rw (day_at-read (n / 86400) h, clock-read (n % 86400) (omega arith), split-day n) refl

date-read : (alone k : ℕ) → k ≤ 3652058 → time_of alone (date_text (day_at k)) ≡ Some (k * 86400 + alone)
date-read alone k h = rw (day_at-read k h) refl

-- No white space is written.

abbrev is_solid : ℕ → Bool
is_solid b = nat_le 33 b

solid-dark : IsDark is_solid
solid-dark b h = grind (arith, nat_tests)

solid : (n k : ℕ) → 33 ≤ k → is_solid (k + n) ≡ true
solid n k h = le-leb 33 (k + n) (omega arith)

date-solid : (d : Day) → list_all is_solid (date_text d) ≡ true
date-solid d = rw (
  solid (d.year / 100 / 10) 48 (omega arith),
  solid (d.year / 100 % 10) 48 (omega arith),
  solid (d.year % 100 / 10) 48 (omega arith),
  solid (d.year % 100 % 10) 48 (omega arith),
  solid (d.month / 10) 48 (omega arith),
  solid (d.month % 10) 48 (omega arith),
  solid (d.day / 10) 48 (omega arith),
  solid (d.day % 10) 48 (omega arith),
) refl

clock-solid : (s : ℕ) → list_all is_solid (84 ∷ clock_text s) ≡ true
clock-solid s = rw (
  solid (s / 3600 / 10) 48 (omega arith),
  solid (s / 3600 % 10) 48 (omega arith),
  solid (s / 60 % 60 / 10) 48 (omega arith),
  solid (s / 60 % 60 % 10) 48 (omega arith),
  solid (s % 60 / 10) 48 (omega arith),
  solid (s % 60 % 10) 48 (omega arith),
) refl

date-token : (d : Day) → token_of (date_text d) ≡ date_text d
date-token d = token-dark is_solid solid-dark (date_text d) (date-solid d)

time-token : (n : ℕ) → token_of (time_text n) ≡ time_text n
time-token n = token-dark is_solid solid-dark (time_text n) (all-append is_solid (date_text (day_at (n / 86400))) (84 ∷ clock_text (n % 86400)) (date-solid (day_at (n / 86400))) (clock-solid (n % 86400)))

-- Starts and ends.

pub start-read : (n : ℕ) → n < 3652059 * 86400 → start_time (token_of (start_text (pos n))) ≡ Some n
start-read n h = by (n % 86400 == 0) refl
  where
    by : (b : Bool) → (n % 86400 == 0) ≡ b → start_time (token_of (if b then date_text (day_at (n / 86400)) else time_text n)) ≡ Some n
    by true e =
        let zero : n % 86400 ≡ 0 = grind (arith, nat_tests) in
        let whole : n / 86400 * 86400 + 0 ≡ n = omega arith in
        ap start_time (date-token (day_at (n / 86400))) ∙ date-read 0 (n / 86400) (omega arith) ∙ ap Some whole
    by false e = ap start_time (time-token n) ∙ time-read 0 n (omega arith)

pub end-read : (n : ℕ) → 1 ≤ n → n ≤ 3652059 * 86400 → end_time (token_of (end_text (pos n))) ≡ Some n
end-read n l h = by (n % 86400 == 0) refl
  where
    by : (b : Bool) → (n % 86400 == 0) ≡ b → end_time (token_of (if b then date_text (day_at (n / 86400 - 1)) else time_text n)) ≡ Some n
    by true e =
        let zero : n % 86400 ≡ 0 = grind (arith, nat_tests) in
        let whole : (n / 86400 - 1) * 86400 + 86400 ≡ n = omega arith in
        ap end_time (date-token (day_at (n / 86400 - 1))) ∙ date-read 86400 (n / 86400 - 1) (omega arith) ∙ ap Some whole
    by false e =
        let part : n % 86400 ≢ 0 = λ z. absurd (grind (arith, nat_tests)) in
        ap end_time (time-token n) ∙ time-read 86400 n (omega arith)
