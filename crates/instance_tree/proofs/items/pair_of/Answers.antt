use Rattle.instance_tree.proofs.ItemLaws.{pair-is, pair-not}
use Rattle.instance_tree.proofs.items.pair_of.Goals as goal

pub returns-then-has_no_elements : goal.returns-then-has_no_elements
returns-then-has_no_elements c =
    pair-is _ _ _ _ _ c.in_ok-first.ensures c.in_ok-second.ensures c.if-has_no_elements.ensures

pub returns-else-has_no_elements : goal.returns-else-has_no_elements
returns-else-has_no_elements c =
    pair-not _ _ _ _ _ c.in_ok-first.ensures c.in_ok-second.ensures c.if-has_no_elements.ensures
