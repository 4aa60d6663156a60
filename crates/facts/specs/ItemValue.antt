-- What an item says, or the lowest rule of values that it breaks (Inline XBRL 1.1, nonNumeric, nonFraction and fraction;
-- XBRL 2.1, 4.6).
use Rattle.std.specs.Prelude.{◌≡◌, ℕ, Bool, true, false, List, [], Option, Some, None, unwrap_or, Result, Ok, Err, codes}
use Rattle.ix_base.specs.declared.content.Item.{Item}
use Rattle.ix_base.specs.declared.content.Value.{Value}
use Rattle.ix_base.specs.declared.content.Value.TheVariants as value
use Rattle.ix_base.specs.declared.kind.Kind.{Kind}
use Rattle.ix_base.specs.declared.kind.Kind.TheVariants as kind
use Rattle.ix_base.specs.declared.rule.Rule.{Rule}
use Rattle.ix_base.specs.Asks.{Asks}
use Rattle.ix_base.specs.Chain.{chain}
use Rattle.ix_base.specs.Elements.{Placed}
use Rattle.ix_base.specs.Kinds.{kind_of}
use Rattle.ix_base.specs.LocatedElements.{Located}
use Rattle.ix_base.specs.Markup.{plain_along, raw}
use Rattle.ix_base.specs.OwnNames.{own}
use Rattle.ix_base.specs.Readers.{fact_name, is_nil, token_at, unit_of}
use Rattle.ix_base.specs.Trees.{Named, Tree}
use Rattle.ix_base.specs.FactViews.{view}
use Rattle.facts.specs.Exactness.{accuracy_of}
use Rattle.facts.specs.FractionValue.{IsFractionValue}
use Rattle.facts.specs.NumberValue.{IsNumberValue, number_by, number_text}
use Rattle.facts.specs.TextValue.{IsTransformed}

-- the text of an element and those at which it goes on: plain, and as it stands, which may be as markup
pub record ItemText : Type 0 where
  pub plain : List ℕ
  pub raw : List ℕ

abbrev pub item_text : (Located → List ℕ) → Asks Located → Located → ItemText
item_text bases a e = record { plain = plain_along (chain a e); raw = raw bases a e }

-- a nonNumeric of this format, or of none, has this value, or breaks this rule
abbrev pub IsTextBy : Option Named → ItemText → Result (List ℕ) Rule → Type 0
IsTextBy None text r = r ≡ Ok text.raw
IsTextBy (Some name) text r = IsTransformed name text.plain r

-- a value that is one text, or a rule
abbrev pub IsPlain : (Result (List ℕ) Rule → Type 0) → Result Value Rule → Type 0
IsPlain IsText (Ok (value.Plain v)) = IsText (Ok v)
IsPlain IsText (Ok v) = ⊥
IsPlain IsText (Err r) = IsText (Err r)

-- the value of an item that isn't nil: of a nonNumeric, a fraction or a nonFraction
abbrev pub IsValueAs : Kind → ItemText → Tree → Result Value Rule → Type 0
IsValueAs kind.NonNumeric text t r = IsPlain (IsTextBy (view t).format text) r
IsValueAs kind.Fraction text t r = IsFractionValue t r
IsValueAs k text t r = IsPlain (IsNumberValue (number_by (view t) (number_text t.children))) r

-- the value of an item that is nil, or isn't
abbrev pub IsValueBy : Bool → Kind → ItemText → Tree → Result Value Rule → Type 0
IsValueBy true k text t r = r ≡ Ok value.Nil
IsValueBy false k text t r = IsValueAs k text t r

abbrev pub IsValueOf : ItemText → Placed → Result Value Rule → Type 0
IsValueOf text p r = IsValueBy (is_nil p.tree) (kind_of p) text p.tree r

-- an item with a value
abbrev pub item_with : Kind → Tree → Value → Item
item_with k t v = record {
  name = own (fact_name t);
  context = unwrap_or (token_at (codes "contextRef") t) [];
  unit = unit_of k t;
  accuracy = accuracy_of k t;
  id = token_at (codes "id") t;
  value = v;
}

-- an element that has this text says this item, or breaks this rule
abbrev pub IsItemOf : ItemText → Placed → Result Item Rule → Type 0
IsItemOf text p (Ok i) = IsValueOf text p (Ok i.value) × (i ≡ item_with (kind_of p) p.tree i.value)
IsItemOf text p (Err r) = IsValueOf text p (Err r)

-- an element of a set says this item, or breaks this rule, the lowest of values that it breaks
abbrev pub IsItem : (Located → List ℕ) → Asks Located → Located → Result Item Rule → Type 0
IsItem bases a e r = IsItemOf (item_text bases a e) e.placed r
