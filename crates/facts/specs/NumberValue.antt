-- The value of a number, or the lowest rule that it breaks (Inline XBRL 1.1, nonFraction: format, scale and sign).
use Rattle.std.specs.Prelude.{◌≡◌, ℕ, ℤ, Bool, true, false, List, [], ◌++◌, Option, Some, None, unwrap_or, Result, Ok, Err, if◌then◌else◌, codes}
use Rattle.ix_base.specs.declared.rule.Rule.{Rule}
use Rattle.ix_base.specs.declared.rule.Rule.TheVariants.{V3, V4}
use Rattle.ix_base.specs.Decimals.{IsUnsigned}
use Rattle.ix_base.specs.Elements.{tree_at}
use Rattle.ix_base.specs.ElementContent.{is_of}
use Rattle.ix_base.specs.Namespaces.{ix_namespace}
use Rattle.ix_base.specs.Token.{token_of}
use Rattle.ix_base.specs.Trees.{Named, Nodes, none, chars, elem, Tree}
use Rattle.ix_base.specs.FactViews.{View}
use Rattle.scale_sign.specs.Scaled.{IsNumber}
use Rattle.facts.specs.Formats.{IsFormat, Transforms, gives_number}
use Rattle.facts.specs.TextValue.{IsTransformed}
use Rattle.facts.specs.declared.format.Format.{Format}

-- the texts among some nodes, joined
abbrev pub own_text : Nodes → List ℕ
own_text none = []
own_text (chars text rest) = text ++ own_text rest
own_text (elem head children rest) = own_text rest

-- the text of the first nonFraction among some nodes: that of the nonFraction in it, or else its own
abbrev pub nested_text : Nodes → Option (List ℕ)
nested_text none = None
nested_text (chars text rest) = nested_text rest
nested_text (elem head children rest) =
    if is_of head.name ix_namespace (codes "nonFraction") then Some (unwrap_or (nested_text children) (own_text children))
    else nested_text rest

-- the text of a nonFraction that holds these nodes: that of the nonFraction in it, or else its own
abbrev pub number_text : Nodes → List ℕ
number_text nodes = unwrap_or (nested_text nodes) (own_text nodes)

-- the first nonFraction among some nodes, or the one in it
abbrev pub nested_in : Nodes → Option Tree
nested_in none = None
nested_in (chars text rest) = nested_in rest
nested_in (elem head children rest) =
    if is_of head.name ix_namespace (codes "nonFraction") then Some (unwrap_or (nested_in children) (tree_at head children))
    else nested_in rest

-- what the element of a number says of it, and its text
pub record Number : Type 0 where
  pub format : Option Named
  pub scale : ℤ
  pub negative : Bool
  pub text : List ℕ

-- a number of this format, scale, sign and text
abbrev pub number_at : Option Named → ℤ → Bool → List ℕ → Number
number_at format scale negative text = record { format = format; scale = scale; negative = negative; text = text }

abbrev pub number_by : View → List ℕ → Number
number_by v text = number_at v.format v.scale v.negative text

-- the decimal that the text of a number says before it is moved and signed, or the lowest rule that it breaks.
-- V3: without a format, its token isn't an unsigned decimal. V4: its format has a value for it, but gives no numbers
abbrev pub IsDigits : Option Named → List ℕ → Result (List ℕ) Rule → Type 0
IsDigits None text (Ok d) = (d ≡ token_of text) × IsUnsigned d
IsDigits None text (Err V3) = ¬ IsUnsigned (token_of text)
IsDigits None text (Err r) = ⊥
IsDigits (Some name) text (Ok d) =
    (format : Format) × IsFormat name format × Transforms format text d × (gives_number format ≡ true)
IsDigits (Some name) text (Err V4) =
    (format : Format) × IsFormat name format × ((v : List ℕ) × Transforms format text v) × (gives_number format ≡ false)
IsDigits (Some name) text (Err r) = IsTransformed name text (Err r)

-- the value of a number: what its text says, moved by the scale and signed
abbrev pub IsNumberValue : Number → Result (List ℕ) Rule → Type 0
IsNumberValue n (Ok v) = (d : List ℕ) × IsDigits n.format n.text (Ok d) × IsNumber d n.scale n.negative v
IsNumberValue n (Err r) = IsDigits n.format n.text (Err r)
