-- What ends a span of a text.
use Rattle.std.specs.Prelude.{ℕ, ◌==◌, Bool, true, false, ◌||◌, not, List, [], ◌∷◌, Option, Some, None, if◌then◌else◌}
use Rattle.ix_base.specs.NcName.{is_white}
use Rattle.page_constructs.specs.Meanings.{is_dark, ends_name, ends_tag_name}
use Rattle.page_constructs.specs.declared.meaning.span.Stop.{Stop}
use Rattle.page_constructs.specs.declared.meaning.span.Stop.TheVariants.{White, Dark, Name, TagName, Special, Odd, Double, Single}

-- a reference, a tab or a line feed begins in a value
abbrev pub is_special : ℕ → Bool
is_special c = c == 38 || c == 9 || c == 10

abbrev pub begins_special : List ℕ → Bool
begins_special [] = false
begins_special (c ∷ cs) = is_special c

-- a byte that doesn't end a text between tags
abbrev pub is_text : ℕ → Bool
is_text c = not (c == 60 || c == 38)

-- a byte of a tag that isn't `>` or `'`
abbrev pub is_plain : ℕ → Bool
is_plain c = not (c == 62 || c == 39)

-- whether a `"` is open behind a byte, and behind some bytes
abbrev pub flipped : Bool → ℕ → Bool
flipped inside c = if c == 34 then not inside else inside

abbrev pub flips : Bool → List ℕ → Bool
flips inside [] = inside
flips inside (c ∷ cs) = flips (flipped inside c) cs

-- the quote that is open
abbrev pub double : Bool → Option ℕ
double true = Some 34
double false = None

-- what ends a value in double quotes whose bytes mean themselves
abbrev pub is_odd : ℕ → Bool
is_odd c = c == 34 || c == 60 || is_special c

abbrev pub stops : Stop → ℕ → Bool
stops White c = is_white c
stops Dark c = is_dark c
stops Name c = ends_name c
stops TagName c = ends_tag_name c
stops Special c = is_special c
stops Odd c = is_odd c
stops Double c = c == 34
stops Single c = c == 39
