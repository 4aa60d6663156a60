-- A name is that of one format, and a text has one value.
use Rattle.std.proofs.Common.{◌≡◌, ◌∙◌, ap, sym, refl, subst, ℕ, true, false, cond, List, [], ◌∷◌, Option, Some, None, Result, Ok, Err, bytes_eq, inl, inr, ◌⊎◌}
use Rattle.std.specs.Option.{option_map_or}
use Rattle.std.specs.Str.{chars}
use Rattle.ix_base.specs.Trees.{Named}
use Rattle.ix_base.specs.declared.rule.Rule.{Rule}
use Rattle.ix_base.specs.declared.rule.Rule.TheVariants.{V1, V2, V3, V4}
use Rattle.tr4_dates.proofs.FormatLaws.{one_value as one_date}
use Rattle.tr4_dates.specs.declared.format.DateFormat.{DateFormat}
use Rattle.tr4_dates.specs.declared.format.DateFormat.TheVariants as date
use Rattle.tr4_numbers.proofs.Complete.{one_value as one_decimal}
use Rattle.tr4_numbers.specs.declared.NumberFormat.{NumberFormat}
use Rattle.tr4_numbers.specs.declared.NumberFormat.TheVariants as number
use Rattle.tr4_numbers.specs.declared.FixedFormat.{FixedFormat}
use Rattle.tr4_numbers.specs.declared.FixedFormat.TheVariants as fixed
use Rattle.facts.specs.Formats.{IsFormat, Transforms, gives_number, name_in, namespace_of, registry_3, registry_4}
use Rattle.ix_base.specs.Decimals.{IsUnsigned}
use Rattle.ix_base.specs.Token.{token_of}
use Rattle.scale_sign.specs.Scaled.{IsNumber}
use Rattle.scale_sign.proofs.Laws.{one_number as one_scaled}
use Rattle.facts.specs.NumberValue.{Number as NumberOf, IsDigits, IsNumberValue}
use Rattle.facts.specs.TextValue.{IsTransformed}
use Rattle.facts.specs.declared.format.Format.{Format}
use Rattle.facts.specs.declared.format.Format.TheVariants.{Date, Fixed, Number}
use Rattle.facts.specs.declared.format.Registry.{Registry}
use Rattle.facts.specs.declared.format.Registry.TheVariants.{Three, Four}

abbrev all_formats : List Format
all_formats =
    Date date.DayMonth
    ∷ Date date.MonthDay
    ∷ Date date.DayMonthYear
    ∷ Date date.MonthDayYear
    ∷ Date date.YearMonthDay
    ∷ Date date.MonthYear
    ∷ Date date.YearMonth
    ∷ Date date.DayMonthNameEn
    ∷ Date date.DayMonthNameDe
    ∷ Date date.DayMonthNameFr
    ∷ Date date.DayMonthNameEs
    ∷ Date date.DayMonthNameIt
    ∷ Date date.DayMonthNameNl
    ∷ Date date.DayMonthNameYearEn
    ∷ Date date.DayMonthNameYearDe
    ∷ Date date.DayMonthNameYearFr
    ∷ Date date.DayMonthNameYearEs
    ∷ Date date.DayMonthNameYearIt
    ∷ Date date.DayMonthNameYearNl
    ∷ Date date.MonthNameYearEn
    ∷ Date date.MonthNameYearDe
    ∷ Date date.MonthNameYearFr
    ∷ Date date.MonthNameYearEs
    ∷ Date date.MonthNameYearIt
    ∷ Date date.MonthNameYearNl
    ∷ Date date.MonthNameDayEn
    ∷ Date date.MonthNameDayYearEn
    ∷ Date date.YearMonthNameEn
    ∷ Fixed fixed.Empty
    ∷ Fixed fixed.False
    ∷ Fixed fixed.True
    ∷ Fixed fixed.Zero
    ∷ Fixed fixed.ZeroDash
    ∷ Number number.Dot
    ∷ Number number.Comma
    ∷ Number number.Unit
    ∷ []

abbrev first_of : Registry → List ℕ → List Format → Option Format
first_of r local [] = None
first_of r local (f ∷ fs) = cond (option_map_or (bytes_eq local) (name_in r f) false) (Some f) (first_of r local fs)

-- a format is the first with its name
abbrev IsFirst : Registry → Format → Option (List ℕ) → Type 0
IsFirst r f None = Unit {0}
IsFirst r f (Some local) = first_of r local all_formats ≡ Some f

date_at_three : (f : DateFormat) → IsFirst Three (Date f) (name_in Three (Date f))
date_at_three date.DayMonth = refl
date_at_three date.MonthDay = refl
date_at_three date.DayMonthYear = refl
date_at_three date.MonthDayYear = refl
date_at_three date.YearMonthDay = tt
date_at_three date.MonthYear = tt
date_at_three date.YearMonth = tt
date_at_three date.DayMonthNameEn = refl
date_at_three date.DayMonthNameDe = tt
date_at_three date.DayMonthNameFr = tt
date_at_three date.DayMonthNameEs = tt
date_at_three date.DayMonthNameIt = tt
date_at_three date.DayMonthNameNl = tt
date_at_three date.DayMonthNameYearEn = refl
date_at_three date.DayMonthNameYearDe = tt
date_at_three date.DayMonthNameYearFr = tt
date_at_three date.DayMonthNameYearEs = tt
date_at_three date.DayMonthNameYearIt = tt
date_at_three date.DayMonthNameYearNl = tt
date_at_three date.MonthNameYearEn = refl
date_at_three date.MonthNameYearDe = tt
date_at_three date.MonthNameYearFr = tt
date_at_three date.MonthNameYearEs = tt
date_at_three date.MonthNameYearIt = tt
date_at_three date.MonthNameYearNl = tt
date_at_three date.MonthNameDayEn = refl
date_at_three date.MonthNameDayYearEn = refl
date_at_three date.YearMonthNameEn = refl

fixed_at_three : (f : FixedFormat) → IsFirst Three (Fixed f) (name_in Three (Fixed f))
fixed_at_three fixed.Empty = refl
fixed_at_three fixed.False = refl
fixed_at_three fixed.True = refl
fixed_at_three fixed.Zero = tt
fixed_at_three fixed.ZeroDash = refl

number_at_three : (f : NumberFormat) → IsFirst Three (Number f) (name_in Three (Number f))
number_at_three number.Dot = refl
number_at_three number.Comma = refl
number_at_three number.Unit = refl

date_at_four : (f : DateFormat) → IsFirst Four (Date f) (name_in Four (Date f))
date_at_four date.DayMonth = refl
date_at_four date.MonthDay = refl
date_at_four date.DayMonthYear = refl
date_at_four date.MonthDayYear = refl
date_at_four date.YearMonthDay = refl
date_at_four date.MonthYear = refl
date_at_four date.YearMonth = refl
date_at_four date.DayMonthNameEn = refl
date_at_four date.DayMonthNameDe = refl
date_at_four date.DayMonthNameFr = refl
date_at_four date.DayMonthNameEs = refl
date_at_four date.DayMonthNameIt = refl
date_at_four date.DayMonthNameNl = refl
date_at_four date.DayMonthNameYearEn = refl
date_at_four date.DayMonthNameYearDe = refl
date_at_four date.DayMonthNameYearFr = refl
date_at_four date.DayMonthNameYearEs = refl
date_at_four date.DayMonthNameYearIt = refl
date_at_four date.DayMonthNameYearNl = refl
date_at_four date.MonthNameYearEn = refl
date_at_four date.MonthNameYearDe = refl
date_at_four date.MonthNameYearFr = refl
date_at_four date.MonthNameYearEs = refl
date_at_four date.MonthNameYearIt = refl
date_at_four date.MonthNameYearNl = refl
date_at_four date.MonthNameDayEn = refl
date_at_four date.MonthNameDayYearEn = refl
date_at_four date.YearMonthNameEn = refl

fixed_at_four : (f : FixedFormat) → IsFirst Four (Fixed f) (name_in Four (Fixed f))
fixed_at_four fixed.Empty = refl
fixed_at_four fixed.False = refl
fixed_at_four fixed.True = refl
fixed_at_four fixed.Zero = refl
fixed_at_four fixed.ZeroDash = tt

number_at_four : (f : NumberFormat) → IsFirst Four (Number f) (name_in Four (Number f))
number_at_four number.Dot = refl
number_at_four number.Comma = refl
number_at_four number.Unit = refl

format_at : (r : Registry) (f : Format) → IsFirst r f (name_in r f)
format_at Three (Date f) = date_at_three f
format_at Three (Fixed f) = fixed_at_three f
format_at Three (Number f) = number_at_three f
format_at Four (Date f) = date_at_four f
format_at Four (Fixed f) = fixed_at_four f
format_at Four (Number f) = number_at_four f

-- a namespace is that of one registry
abbrev registry_of : List ℕ → Option Registry
registry_of ns = cond (bytes_eq ns registry_3) (Some Three) (cond (bytes_eq ns registry_4) (Some Four) None)

registry_at : (r : Registry) → registry_of (namespace_of r) ≡ Some r
unfolding registry_3 registry_4
registry_at Three = refl
registry_at Four = refl

pub one_registry : (ns : List ℕ) (q r : Registry) → ns ≡ namespace_of q → ns ≡ namespace_of r → q ≡ r
one_registry ns q r a b = let z : Some q ≡ Some r = sym (registry_at q) ∙ ap registry_of (sym a ∙ b) ∙ registry_at r in cc

pub one_format : (name : Named) (f g : Format) → IsFormat name f → IsFormat name g → f ≡ g
one_format name f g a b =
    let r : a.registry ≡ b.registry = one_registry name.ns a.registry b.registry a.namespace b.namespace in
    let x : first_of a.registry name.local all_formats ≡ Some f = subst (IsFirst a.registry f) (sym a.local) (format_at a.registry f) in
    let y : first_of b.registry name.local all_formats ≡ Some g = subst (IsFirst b.registry g) (sym b.local) (format_at b.registry g) in
    let z : Some f ≡ Some g = sym x ∙ ap (λ q. first_of q name.local all_formats) r ∙ y in cc

one_transform : (f : Format) (text v w : List ℕ) → Transforms f text v → Transforms f text w → v ≡ w
one_transform (Date f) text v w a b = one_date f text v w a b
one_transform (Fixed f) text v w a b = a.1 ∙ sym b.1
one_transform (Number f) text v w a b = one_decimal f (chars text) v w a b

-- in two formats of one name
one_of_name : (name : Named) (f g : Format) (text v w : List ℕ)
    → IsFormat name f → IsFormat name g → Transforms f text v → Transforms g text w → v ≡ w
one_of_name name f g text v w a b h k =
    one_transform f text v w h (subst (λ (x : Format). Transforms x text w) (one_format name g f b a) k)

-- which rule a text breaks in the format of a name
Broken : Named → List ℕ → Rule → Type 0
Broken name text r = ((r ≡ V1) × ((f : Format) → IsFormat name f → ⊥))
    ⊎ ((r ≡ V2) × ((f : Format) × IsFormat name f × ((v : List ℕ) → Transforms f text v → ⊥)))

which : (name : Named) (text : List ℕ) (r : Rule) → IsTransformed name text (Err r) → Broken name text r
unfolding Broken
which name text V1 h = inl (refl, h)
which name text V2 h = inr (refl, h)
which name text r h = absurd h

one_rule : (name : Named) (text : List ℕ) (q r : Rule) → Broken name text q → Broken name text r → q ≡ r
unfolding Broken
one_rule name text q r (inl a) (inl b) = a.0 ∙ sym b.0
one_rule name text q r (inl a) (inr b) = absurd (a.1 b.1.0 b.1.1)
one_rule name text q r (inr a) (inl b) = absurd (b.1 a.1.0 a.1.1)
one_rule name text q r (inr a) (inr b) = a.0 ∙ sym b.0

not_both : (name : Named) (text v : List ℕ) (r : Rule) → IsTransformed name text (Ok v) → Broken name text r → ⊥
unfolding Broken
not_both name text v r a (inl b) = b.1 a.0 a.1
not_both name text v r a (inr b) = b.1.2 v (subst (λ (x : Format). Transforms x text v) (one_format name a.0 b.1.0 a.1 b.1.1) a.2)

-- a text has one value in the format of a name, or breaks one rule
pub one_transformed : (name : Named) (text : List ℕ) (r s : Result (List ℕ) Rule)
    → IsTransformed name text r → IsTransformed name text s → r ≡ s
one_transformed name text (Ok v) (Ok w) a b = ap Ok (one_of_name name a.0 b.0 text v w a.1 b.1 a.2 b.2)
one_transformed name text (Ok v) (Err r) a b = absurd (not_both name text v r a (which name text r b))
one_transformed name text (Err q) (Ok w) a b = absurd (not_both name text w q b (which name text q a))
one_transformed name text (Err q) (Err r) a b = ap Err (one_rule name text q r (which name text q a) (which name text r b))

-- which rule the text of a number breaks in the format of a name
NoDigits : Named → List ℕ → Rule → Type 0
NoDigits name text r = Broken name text r
    ⊎ ((r ≡ V4) × ((f : Format) × IsFormat name f × ((v : List ℕ) × Transforms f text v) × (gives_number f ≡ false)))

which_digits : (name : Named) (text : List ℕ) (r : Rule) → IsDigits (Some name) text (Err r) → NoDigits name text r
unfolding NoDigits
which_digits name text V4 h = inr (refl, h)
which_digits name text r h = inl (which name text r h)

no_number : (name : Named) (text : List ℕ) (f : Format)
    → IsFormat name f → ((v : List ℕ) × Transforms f text v) → (r : Rule) → Broken name text r → ⊥
no_number name text f is v r b = not_both name text v.0 r (f, is, v.1) b

one_rule_of_digits : (name : Named) (text : List ℕ) (q r : Rule) → NoDigits name text q → NoDigits name text r → q ≡ r
unfolding NoDigits
one_rule_of_digits name text q r (inl a) (inl b) = one_rule name text q r a b
one_rule_of_digits name text q r (inl a) (inr b) = absurd (no_number name text b.1.0 b.1.1 b.1.2 q a)
one_rule_of_digits name text q r (inr a) (inl b) = absurd (no_number name text a.1.0 a.1.1 a.1.2 r b)
one_rule_of_digits name text q r (inr a) (inr b) = a.0 ∙ sym b.0

digits_or_rule : (name : Named) (text d : List ℕ) (r : Rule) → IsDigits (Some name) text (Ok d) → NoDigits name text r → ⊥
unfolding NoDigits
digits_or_rule name text d r a (inl b) = not_both name text d r (a.0, a.1, a.2) b
digits_or_rule name text d r a (inr b) =
    let gives : gives_number b.1.0 ≡ true = subst (λ (f : Format). gives_number f ≡ true) (one_format name a.0 b.1.0 a.1 b.1.1) a.3 in
    let z : true ≡ false = sym gives ∙ b.1.3 in cc

plain_rule : (text : List ℕ) (r : Rule) → IsDigits None text (Err r) → (r ≡ V3) × (IsUnsigned (token_of text) → ⊥)
plain_rule text V3 h = (refl, h)
plain_rule text r h = absurd h

-- the text of a number says one decimal, or breaks one rule
pub one_digits : (format : Option Named) (text : List ℕ) (r s : Result (List ℕ) Rule)
    → IsDigits format text r → IsDigits format text s → r ≡ s
one_digits None text (Ok d) (Ok e) a b = ap Ok (a.0 ∙ sym b.0)
one_digits None text (Ok d) (Err r) a b = absurd ((plain_rule text r b).1 (subst IsUnsigned a.0 a.1))
one_digits None text (Err q) (Ok e) a b = absurd ((plain_rule text q a).1 (subst IsUnsigned b.0 b.1))
one_digits None text (Err q) (Err r) a b = ap Err ((plain_rule text q a).0 ∙ sym (plain_rule text r b).0)
one_digits (Some name) text (Ok d) (Ok e) a b = ap Ok (one_of_name name a.0 b.0 text d e a.1 b.1 a.2 b.2)
one_digits (Some name) text (Ok d) (Err r) a b = absurd (digits_or_rule name text d r a (which_digits name text r b))
one_digits (Some name) text (Err q) (Ok e) a b = absurd (digits_or_rule name text e q b (which_digits name text q a))
one_digits (Some name) text (Err q) (Err r) a b =
    ap Err (one_rule_of_digits name text q r (which_digits name text q a) (which_digits name text r b))

-- and a number has one value
pub one_value : (n : NumberOf) (r s : Result (List ℕ) Rule) → IsNumberValue n r → IsNumberValue n s → r ≡ s
one_value n (Ok v) (Ok w) a b =
    let same : Ok a.0 ≡ Ok b.0 = one_digits n.format n.text (Ok a.0) (Ok b.0) a.1 b.1 in
    let digits : a.0 ≡ b.0 = cc in
    ap Ok (one_scaled b.0 n.scale n.negative v w (subst (λ (d : List ℕ). IsNumber d n.scale n.negative v) digits a.2) b.2)
one_value n (Ok v) (Err r) a b = absurd (let z : Ok a.0 ≡ Err r = one_digits n.format n.text (Ok a.0) (Err r) a.1 b in cc)
one_value n (Err q) (Ok w) a b = absurd (let z : Ok b.0 ≡ Err q = one_digits n.format n.text (Ok b.0) (Err q) b.1 a in cc)
one_value n (Err q) (Err r) a b = one_digits n.format n.text (Err q) (Err r) a b
