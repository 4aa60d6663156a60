use Rattle.facts.proofs.OneItem.{one_item}
use Rattle.facts.specs.ItemValue.{item_text}
use Rattle.facts.proofs.laws.one_item.Goals as goal

pub returns : goal.returns
returns c bases a e r s = one_item (item_text bases a e) e.placed r s
