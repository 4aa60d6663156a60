use Rattle.facts.specs.ItemValue.{item_text}
use Rattle.facts.proofs.SomeItem.{some_item}
use Rattle.facts.proofs.laws.some_item.Goals as goal

pub returns : goal.returns
returns c bases a e none = some_item (item_text bases a e) e.placed none
