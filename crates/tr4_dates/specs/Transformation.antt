-- What a date format makes of a text: of which parts the text is joined, which days are real, and how the value is
-- written. The names of the formats are those of the XBRL Transformation Rules Registry 4; the layouts, the names of
-- the months and the values are this project's own.
use Rattle.std.specs.Prelude.{ℕ, ◌≡◌, ◌+◌, ◌/◌, ◌%◌, pos, List, [], ◌∷◌, ◌++◌, codes, Option, Some, None}
use Rattle.jiff.specs.Words.{IsDate}
use Rattle.tr4_dates.specs.Formats.{language_of, layout_of}
use Rattle.tr4_dates.specs.Parts.{Joins}
use Rattle.tr4_dates.specs.declared.format.DateFormat.{DateFormat}
use Rattle.tr4_dates.specs.declared.format.Layout.{Layout}
use Rattle.tr4_dates.specs.declared.format.Layout.TheVariants.{DayMonth, MonthDay, DayMonthYear, MonthDayYear, YearMonthDay, MonthYear, YearMonth, DayMonthName, DayMonthNameYear, MonthNameYear, MonthNameDay, MonthNameDayYear, YearMonthName}
use Rattle.tr4_dates.specs.declared.part.Fields.{Fields}
use Rattle.tr4_dates.specs.declared.part.Part.{Part}
use Rattle.tr4_dates.specs.declared.part.Part.TheVariants.{Day, Month, Year, Gap, Tail, Signs, Edge, Ordinal, Name}

abbrev pub parts_of : Layout → List Part
parts_of DayMonth = Edge ∷ Day ∷ Gap ∷ Month ∷ Tail ∷ []
parts_of MonthDay = Edge ∷ Month ∷ Gap ∷ Day ∷ Tail ∷ []
parts_of DayMonthYear = Edge ∷ Day ∷ Gap ∷ Month ∷ Gap ∷ Year ∷ Tail ∷ []
parts_of MonthDayYear = Edge ∷ Month ∷ Gap ∷ Day ∷ Gap ∷ Year ∷ Tail ∷ []
parts_of YearMonthDay = Edge ∷ Year ∷ Gap ∷ Month ∷ Gap ∷ Day ∷ Tail ∷ []
parts_of MonthYear = Edge ∷ Month ∷ Gap ∷ Year ∷ Tail ∷ []
parts_of YearMonth = Edge ∷ Year ∷ Gap ∷ Month ∷ Tail ∷ []
parts_of DayMonthName = Edge ∷ Day ∷ Ordinal ∷ Signs ∷ Name ∷ Edge ∷ []
parts_of DayMonthNameYear = Edge ∷ Day ∷ Ordinal ∷ Signs ∷ Name ∷ Signs ∷ Year ∷ Tail ∷ []
parts_of MonthNameYear = Edge ∷ Name ∷ Signs ∷ Year ∷ Tail ∷ []
parts_of MonthNameDay = Edge ∷ Name ∷ Signs ∷ Day ∷ Tail ∷ []
parts_of MonthNameDayYear = Edge ∷ Name ∷ Signs ∷ Day ∷ Gap ∷ Year ∷ Tail ∷ []
parts_of YearMonthName = Edge ∷ Year ∷ Signs ∷ Name ∷ Edge ∷ []

-- a day of the Gregorian calendar; without a year, a day of a leap year; a year and a month always
abbrev pub IsReal : Option ℕ → Option ℕ → Option ℕ → Type 0
IsReal (Some y) (Some m) (Some d) = IsDate (pos y) (pos m) (pos d)
IsReal None (Some m) (Some d) = IsDate (pos 2000) (pos m) (pos d)
IsReal (Some y) (Some m) None = Unit {0}
IsReal None (Some m) None = ⊥
IsReal None None d = ⊥
IsReal (Some y) None d = ⊥

-- two digits, and four
abbrev pub two : ℕ → List ℕ
two n = (48 + n / 10 % 10) ∷ (48 + n % 10) ∷ []

abbrev pub four : ℕ → List ℕ
four n = (48 + n / 1000 % 10) ∷ (48 + n / 100 % 10) ∷ two n

-- YYYY-MM-DD, --MM-DD or YYYY-MM
abbrev pub written : Option ℕ → Option ℕ → Option ℕ → List ℕ
written (Some y) (Some m) (Some d) = four y ++ codes "-" ++ two m ++ codes "-" ++ two d
written None (Some m) (Some d) = codes "--" ++ two m ++ codes "-" ++ two d
written (Some y) (Some m) None = four y ++ codes "-" ++ two m
written None (Some m) None = []
written None None d = []
written (Some y) None d = []

-- the format relates the text to the value
pub record Tr (format : DateFormat) (text value : List ℕ) : Type 0 where
  pub said : Fields
  pub joins : Joins (language_of format) (parts_of (layout_of format)) [] text said
  pub real : IsReal said.year said.month said.day
  pub value_is : value ≡ written said.year said.month said.day
