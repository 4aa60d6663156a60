use Rattle.page_tree.proofs.SpelledCuts.{cut-front}
use Rattle.page_tree.proofs.laws.cut_in_front.Goals as goal

pub returns : goal.returns
returns c = cut-front
