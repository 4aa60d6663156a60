use Rattle.page_tree.proofs.SpelledCuts.{start-size}
use Rattle.page_tree.proofs.SpelledTags.{start-means}
use Rattle.page_tree.proofs.laws.written_start_tag.Goals as goal

pub returns-clause-cut : goal.returns-clause-cut
returns-clause-cut c = λ name attrs n h first rest. start-size first name attrs rest n h

pub returns-clause-means : goal.returns-clause-means
returns-clause-means c = start-means
