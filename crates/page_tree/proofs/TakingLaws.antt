-- What a refusal tells further up.
use Rattle.std.proofs.Common.{◌≡◌, Option, Some}
use Rattle.ix_base.specs.declared.rule.Rule.{Rule}
use Rattle.page_tree.specs.Effects.{Refuses}
use Rattle.page_tree.specs.declared.refusal.Refusal.{Refusal}
use Rattle.page_tree.specs.declared.refusal.Refusal.TheVariants.{Breaks, NoMemory}

-- where the rule that was found is the lowest of all
pub refuses-on : (e : Refusal) (broken next : Option Rule) → ((r : Rule) → broken ≡ Some r → next ≡ Some r) → Refuses broken e → Refuses next e
refuses-on (Breaks r) broken next f h = f r h
refuses-on NoMemory broken next f h = tt
