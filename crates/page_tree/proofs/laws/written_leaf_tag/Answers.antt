use Rattle.page_tree.proofs.SpelledCuts.{leaf-size}
use Rattle.page_tree.proofs.SpelledTags.{leaf-means}
use Rattle.page_tree.proofs.laws.written_leaf_tag.Goals as goal

pub returns-clause-cut : goal.returns-clause-cut
returns-clause-cut c = λ name attrs n h first rest. leaf-size first name attrs rest n h

pub returns-clause-means : goal.returns-clause-means
returns-clause-means c = leaf-means
