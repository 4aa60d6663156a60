use Rattle.page_tree.proofs.PieceLaws.{pieces}
use Rattle.page_tree.proofs.laws.cut_in_pieces.Goals as goal

pub returns : goal.returns
returns c = pieces
