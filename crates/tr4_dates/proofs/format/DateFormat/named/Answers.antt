use Rattle.std.proofs.Common.{◌≡◌}
use Rattle.tr4_dates.specs.declared.format.DateFormat.{DateFormat}
use Rattle.tr4_dates.specs.declared.format.DateFormat.TheVariants.{DayMonth, MonthDay, DayMonthYear, MonthDayYear, YearMonthDay, MonthYear, YearMonth, DayMonthNameEn, DayMonthNameDe, DayMonthNameFr, DayMonthNameEs, DayMonthNameIt, DayMonthNameNl, DayMonthNameYearEn, DayMonthNameYearDe, DayMonthNameYearFr, DayMonthNameYearEs, DayMonthNameYearIt, DayMonthNameYearNl, MonthNameYearEn, MonthNameYearDe, MonthNameYearFr, MonthNameYearEs, MonthNameYearIt, MonthNameYearNl, MonthNameDayEn, MonthNameDayYearEn, YearMonthNameEn}
use Rattle.tr4_dates.specs.Formats.{name_of}
use Rattle.tr4_dates.proofs.format.DateFormat.named.Goals as goal

pub returns-in_default : goal.returns-in_default
returns-in_default c = λ format. (λ e. absurd (cc), λ e. absurd (unnamed format e))
  where
    unnamed : (format : DateFormat) → c.args.local.now ≡ name_of format → ⊥
    unnamed DayMonth = c.in_default.not-text
    unnamed MonthDay = c.in_default.not-text-2
    unnamed DayMonthYear = c.in_default.not-text-3
    unnamed MonthDayYear = c.in_default.not-text-4
    unnamed YearMonthDay = c.in_default.not-text-5
    unnamed MonthYear = c.in_default.not-text-6
    unnamed YearMonth = c.in_default.not-text-7
    unnamed DayMonthNameEn = c.in_default.not-text-8
    unnamed DayMonthNameDe = c.in_default.not-text-9
    unnamed DayMonthNameFr = c.in_default.not-text-10
    unnamed DayMonthNameEs = c.in_default.not-text-11
    unnamed DayMonthNameIt = c.in_default.not-text-12
    unnamed DayMonthNameNl = c.in_default.not-text-13
    unnamed DayMonthNameYearEn = c.in_default.not-text-14
    unnamed DayMonthNameYearDe = c.in_default.not-text-15
    unnamed DayMonthNameYearFr = c.in_default.not-text-16
    unnamed DayMonthNameYearEs = c.in_default.not-text-17
    unnamed DayMonthNameYearIt = c.in_default.not-text-18
    unnamed DayMonthNameYearNl = c.in_default.not-text-19
    unnamed MonthNameYearEn = c.in_default.not-text-20
    unnamed MonthNameYearDe = c.in_default.not-text-21
    unnamed MonthNameYearFr = c.in_default.not-text-22
    unnamed MonthNameYearEs = c.in_default.not-text-23
    unnamed MonthNameYearIt = c.in_default.not-text-24
    unnamed MonthNameYearNl = c.in_default.not-text-25
    unnamed MonthNameDayEn = c.in_default.not-text-26
    unnamed MonthNameDayYearEn = c.in_default.not-text-27
    unnamed YearMonthNameEn = c.in_default.not-text-28
