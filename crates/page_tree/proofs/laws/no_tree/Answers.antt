use Rattle.page_tree.proofs.PageLaws.{no_tree}
use Rattle.page_tree.proofs.laws.no_tree.Goals as goal

pub returns : goal.returns
returns c = no_tree
