use Rattle.facts.proofs.Renumbered.{item-moved}
use Rattle.facts.proofs.laws.renumbered_item.Goals as goal

pub returns : goal.returns
returns c bases new_bases numbers apart same es e r i = item-moved bases new_bases numbers apart same es e r i
