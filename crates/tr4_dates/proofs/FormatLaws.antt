-- A text has one value at most in a format.
use Rattle.std.proofs.Common.{◌≡◌, ℕ, true, false, List, [], Some, None, refl, sym, ap, subst, ◌∙◌}
use Rattle.std.proofs.lemmas.Option.{same_Some}
use Rattle.tr4_dates.specs.declared.format.DateFormat.{DateFormat}
use Rattle.tr4_dates.specs.declared.format.Layout.{Layout}
use Rattle.tr4_dates.specs.declared.format.Layout.TheVariants.{DayMonth, MonthDay, DayMonthYear, MonthDayYear, YearMonthDay, MonthYear, YearMonth, DayMonthName, DayMonthNameYear, MonthNameYear, MonthNameDay, MonthNameDayYear, YearMonthName}
use Rattle.tr4_dates.specs.declared.part.Fields.{Fields}
use Rattle.tr4_dates.specs.Formats.{language_of, layout_of}
use Rattle.tr4_dates.specs.Transformation.{parts_of, written, IsReal, Tr}
use Rattle.tr4_dates.specs.Parts.{Joins}
use Rattle.tr4_dates.specs.Readers.{read}
use Rattle.tr4_dates.specs.Runs.{digits, ends_in}
use Rattle.tr4_dates.proofs.Laws.{sound, complete}
use Rattle.tr4_dates.proofs.Rows.{is_row}

row_told : (layout : Layout) → is_row false (parts_of layout) ≡ true
row_told DayMonth = refl
row_told MonthDay = refl
row_told DayMonthYear = refl
row_told MonthDayYear = refl
row_told YearMonthDay = refl
row_told MonthYear = refl
row_told YearMonth = refl
row_told DayMonthName = refl
row_told DayMonthNameYear = refl
row_told MonthNameYear = refl
row_told MonthNameDay = refl
row_told MonthNameDayYear = refl
row_told YearMonthName = refl

nothing_before : ends_in digits [] ≡ false
unfolding ends_in
nothing_before = refl

pub joins_read : (f : DateFormat) (text : List ℕ) (said : Fields)
    → read (language_of f) (parts_of (layout_of f)) text ≡ Some said
    → Joins (language_of f) (parts_of (layout_of f)) [] text said
joins_read f text said r = sound (language_of f) (parts_of (layout_of f)) false [] text said (row_told (layout_of f)) (λ h. nothing_before) r

pub read_joins : (f : DateFormat) (text : List ℕ) (said : Fields)
    → Joins (language_of f) (parts_of (layout_of f)) [] text said
    → read (language_of f) (parts_of (layout_of f)) text ≡ Some said
read_joins f text said j = complete (language_of f) (parts_of (layout_of f)) false [] text said (row_told (layout_of f)) j

pub one_value : (f : DateFormat) (text a b : List ℕ) → Tr f text a → Tr f text b → a ≡ b
one_value f text a b x y =
    let same = same_Some _ _ (sym (read_joins f text x.said x.joins) ∙ read_joins f text y.said y.joins) in
    x.value_is ∙ ap (λ (s : Fields). written s.year s.month s.day) same ∙ sym y.value_is

pub related : (f : DateFormat) (text value : List ℕ) (said : Fields)
    → read (language_of f) (parts_of (layout_of f)) text ≡ Some said → IsReal said.year said.month said.day
    → value ≡ written said.year said.month said.day → Tr f text value
related f text value said r real e = record { said = said; joins = joins_read f text said r; real = real; value_is = e }

pub unread : (f : DateFormat) (text value : List ℕ) → read (language_of f) (parts_of (layout_of f)) text ≡ None
    → Tr f text value → ⊥
unread f text value r x = let again = read_joins f text x.said x.joins in cc

pub unreal : (f : DateFormat) (text value : List ℕ) (said : Fields)
    → read (language_of f) (parts_of (layout_of f)) text ≡ Some said → (IsReal said.year said.month said.day → ⊥)
    → Tr f text value → ⊥
unreal f text value said r no_day x =
    let same = same_Some _ _ (sym (read_joins f text x.said x.joins) ∙ r) in
    no_day (subst (λ (s : Fields). IsReal s.year s.month s.day) same x.real)

pub ruleset formats = (related, unread, unreal)
