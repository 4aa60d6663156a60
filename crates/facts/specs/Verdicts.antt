-- What an answer says: a value, or the rule that is broken. Want of memory says nothing.
use Rattle.std.specs.Prelude.{ℕ, List, Option, Some, None, Result, Ok, Err}
use Rattle.ix_base.specs.declared.content.Value.{Value}
use Rattle.ix_base.specs.declared.content.Value.TheVariants as value
use Rattle.ix_base.specs.declared.rule.Rule.{Rule}
use Rattle.ix_base.specs.declared.rule.Rule.TheVariants.{V2}
use Rattle.tr4_dates.specs.declared.TrFault.{TrFault}
use Rattle.tr4_dates.specs.declared.TrFault.TheVariants as transformation
use Rattle.facts.specs.FractionValue.{fraction}
use Rattle.facts.specs.declared.fault.ItemFault.{ItemFault}
use Rattle.facts.specs.declared.fault.ItemFault.TheVariants as fault

abbrev pub said : {X : Type 0} → Result X ItemFault → Option (Result X Rule)
said (Ok v) = Some (Ok v)
said (Err (fault.Breach rule)) = Some (Err rule)
said (Err fault.NoMemory) = None

-- the rule that something was said to break, if it breaks one
abbrev pub rule_said : {X : Type 0} → Result X Rule → Option Rule
rule_said (Ok v) = None
rule_said (Err rule) = Some rule

-- of a fraction, from what is said of its two parts
abbrev pub said_both : Option (Result (List ℕ) Rule) → Option (Result (List ℕ) Rule) → Option (Result Value Rule)
said_both None d = None
said_both (Some n) None = None
said_both (Some n) (Some d) = Some (fraction n d)

-- a text as a value
abbrev pub as_plain : Result (List ℕ) Rule → Result Value Rule
as_plain (Ok v) = Ok (value.Plain v)
as_plain (Err r) = Err r

-- why an item has no value, where its text has none in its format
abbrev pub fault_of : TrFault → ItemFault
fault_of transformation.NotInGrammar = fault.Breach V2
fault_of transformation.NoMemory = fault.NoMemory
