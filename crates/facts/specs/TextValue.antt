-- The value that a text has in the format of a name, or the lowest rule that it breaks (Inline XBRL 1.1, format).
use Rattle.std.specs.Prelude.{ℕ, List, Result, Ok, Err}
use Rattle.ix_base.specs.declared.rule.Rule.{Rule}
use Rattle.ix_base.specs.declared.rule.Rule.TheVariants.{V1, V2}
use Rattle.ix_base.specs.Trees.{Named}
use Rattle.facts.specs.Formats.{IsFormat, Transforms}
use Rattle.facts.specs.declared.format.Format.{Format}

-- V1: no format has the name. V2: its format relates the text to no value
abbrev pub IsTransformed : Named → List ℕ → Result (List ℕ) Rule → Type 0
IsTransformed name text (Ok v) = (format : Format) × IsFormat name format × Transforms format text v
IsTransformed name text (Err V1) = (format : Format) → ¬ IsFormat name format
IsTransformed name text (Err V2) = (format : Format) × IsFormat name format × ((v : List ℕ) → ¬ Transforms format text v)
IsTransformed name text (Err r) = ⊥
