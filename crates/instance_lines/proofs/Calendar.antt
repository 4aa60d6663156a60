-- The day that is so many days after 0001-01-01.
use Rattle.std.proofs.Common.{◌≡◌, ◌∙◌, ℕ, zero, suc, ◌+◌, ◌≤◌, Bool, true, false, cond, nat_lt, ℤ, pos, neg_ℤ, ◌+ℤ◌, ◌<ℤ◌, ap, subst, sym, refl, arith, ⊎_elim}
use Rattle.std.proofs.lemmas.Bool.{cases_lt, ltb-true, ltb-false}
use Rattle.std.proofs.lemmas.Int.{by_lt_z}
use Rattle.jiff_core.specs.Calendar.{IsCivilDate, day_count, days_in_month}
use Rattle.jiff_core.proofs.CalendarLemmas.{days_from_civil-day_count, days_in_month_bounds, day_count-day, day_count-next_month, day_count-next_year, day_count-last_of_year, day_count-lt_year, day_count-lt_month}
use Rattle.jiff.proofs.SpanFacts.{signed_arith}
use Rattle.jiff.specs.Words.{epoch_day}
use Rattle.jiff.specs.Types.{Date}
use Rattle.ix_base.specs.Days.{Day, next_day, day_at}
use Rattle.instance_lines.proofs.FirstDay.{first_count}

-- a day of the calendar, of any year from 1 on
pub record IsProper (d : Day) : Type 0 where
  pub year : 1 ≤ d.year
  pub month : 1 ≤ d.month
  pub months : d.month ≤ 12
  pub day : 1 ≤ d.day
  pub days : d.day ≤ days_in_month (pos d.year) d.month

abbrev pub count_of : Day → ℕ
count_of d = day_count (pos d.year) d.month d.day

pub record IsNext (d e : Day) : Type 0 where
  pub proper : IsProper e
  pub count : count_of e ≡ count_of d + 1

-- by whether the month goes on, and whether the year does
next_by : (d : Day) → IsProper d → (more_days more_months : Bool) → nat_lt d.day (days_in_month (pos d.year) d.month) ≡ more_days → nat_lt d.month 12 ≡ more_months
    → IsNext d (cond more_days (record d { day = d.day + 1 }) (cond more_months (record { year = d.year; month = d.month + 1; day = 1 }) (record { year = d.year + 1; month = 1; day = 1 })))
next_by d p true more_months e f =
    let below = ltb-true d.day (days_in_month (pos d.year) d.month) e in
    record {
      proper = record { year = p.year; month = p.month; months = p.months; day = omega arith; days = omega arith };
      count = omega (arith, day_count-day (pos d.year) d.month d.day (d.day + 1) p.day (omega arith));
    }
next_by d p false true e f =
    let last = ltb-false d.day (days_in_month (pos d.year) d.month) e in
    let below = ltb-true d.month 12 f in
    let long = days_in_month_bounds (pos d.year) (d.month + 1) in
    let high = p.days in
    record {
      proper = record { year = p.year; month = omega arith; months = omega arith; day = omega arith; days = omega arith };
      count = omega (arith, day_count-next_month (pos d.year) d.month p.month, day_count-day (pos d.year) d.month d.day 1 p.day (omega arith));
    }
next_by d p false false e f =
    let last = ltb-false d.day (days_in_month (pos d.year) d.month) e in
    let above = ltb-false d.month 12 f in
    let month : d.month ≡ 12 = omega (arith, p.months) in
    let days : days_in_month (pos d.year) d.month ≡ 31 = ap (days_in_month (pos d.year)) month in
    let day : d.day ≡ 31 = omega (arith, p.days) in
    let here : count_of d ≡ day_count (pos d.year) 12 31 = ap (λ m. day_count (pos d.year) m d.day) month ∙ ap (day_count (pos d.year) 12) day in
    let next = day_count-next_year (pos d.year) (pos (d.year + 1)) (omega (arith, signed_arith)) (omega (arith, signed_arith)) in
    record {
      proper = record { year = omega arith; month = omega arith; months = omega arith; day = omega arith; days = omega arith };
      count = omega (arith, day_count-last_of_year (pos d.year), next, here);
    }

next_is : (d : Day) → IsProper d → IsNext d (next_day d)
next_is d p = next_by d p _ _ refl refl

-- a day with so many days before it
pub record IsDayAfter (n : ℕ) (d : Day) : Type 0 where
  pub proper : IsProper d
  pub count : count_of d ≡ 3652791 + n

pub day_at-is : (n : ℕ) → IsDayAfter n (day_at n)
unfolding day_at
day_at-is zero = record {
  proper = record { year = omega arith; month = omega arith; months = omega arith; day = omega arith; days = omega arith };
  count = first_count;
}
day_at-is (suc n) =
    let before = day_at-is n in
    let next = next_is (day_at n) before.proper in
    record { proper = next.proper; count = omega (arith, next.count, before.count) }

-- a day of the calendar is the only one of its year with its count
same_months : (y : ℤ) (m d m₂ d₂ : ℕ) → IsCivilDate y m d → IsCivilDate y m₂ d₂ → day_count y m d ≡ day_count y m₂ d₂ → (m ≡ m₂) × (d ≡ d₂)
same_months y m d m₂ d₂ h k same = ⊎_elim
    (λ lt. absurd (omega (arith, day_count-lt_month y m d m₂ d₂ h k.2.0 lt)))
    (λ ge. ⊎_elim
    (λ gt. absurd (omega (arith, day_count-lt_month y m₂ d₂ m d k h.2.0 gt)))
    (λ le.
    let month : m ≡ m₂ = omega (arith, ge) in
    let moved : day_count y m d ≡ day_count y m d₂ = same ∙ ap (λ x. day_count y x d₂) (sym month) in
    (month, omega (arith, day_count-day y m d d₂ h.2.0 k.2.0)))
    (cases_lt m₂ m))
    (cases_lt m m₂)

-- and of all
same_parts : (y : ℤ) (m d : ℕ) (e : Day) → IsCivilDate y m d → IsProper e → day_count y m d ≡ count_of e → (y ≡ pos e.year) × (m ≡ e.month) × (d ≡ e.day)
same_parts y m d e h p same =
    by_lt_z y (pos e.year) (λ lt. absurd (omega (arith, day_count-lt_year y m d (pos e.year) e.month e.day h p.day lt)))
    (λ ge. by_lt_z (pos e.year) y (λ gt. absurd (omega (arith, day_count-lt_year (pos e.year) e.month e.day y m d (civil gt) h.2.0 gt)))
    (λ le.
    let year : y ≡ pos e.year = omega (arith, signed_arith) in
    let there : IsCivilDate y e.month e.day = (h.0, (p.month, p.months), (p.day, subst (λ x. e.day ≤ days_in_month x e.month) (sym year) p.days)) in
    let rest = same_months y m d e.month e.day h there (same ∙ ap (λ x. day_count x e.month e.day) (sym year)) in
    (year, rest.0, rest.1)))
  where
    civil : pos e.year <ℤ y → IsCivilDate (pos e.year) e.month e.day
    civil gt = (omega (arith, signed_arith, h.0), (p.month, p.months), (p.day, p.days))

-- a date with so many days before it
pub day_at-date : (d : Date) (n : ℕ) → epoch_day d ≡ neg_ℤ (pos 719162) +ℤ pos n → (d.year ≡ pos (day_at n).year) × (d.month ≡ (day_at n).month) × (d.day ≡ (day_at n).day)
day_at-date d n e =
    let at = day_at-is n in
    same_parts d.year d.month d.day (day_at n) (d.year_in, d.month_in, d.day_in) at.proper (omega (arith, signed_arith, days_from_civil-day_count d.year d.month d.day, at.count))

-- and so has a day
pub day_at-days : (y m d n : ℕ) → IsCivilDate (pos y) m d → day_count (pos y) m d ≡ 3652791 + n → (pos y ≡ pos (day_at n).year) × (m ≡ (day_at n).month) × (d ≡ (day_at n).day)
day_at-days y m d n h e = let at = day_at-is n in same_parts (pos y) m d (day_at n) h at.proper (omega (arith, at.count))
