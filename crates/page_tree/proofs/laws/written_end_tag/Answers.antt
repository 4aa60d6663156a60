use Rattle.page_tree.proofs.SpelledCuts.{close-size}
use Rattle.page_tree.proofs.SpelledTags.{close-means}
use Rattle.page_tree.proofs.laws.written_end_tag.Goals as goal

pub returns-clause-cut : goal.returns-clause-cut
returns-clause-cut c = λ name n first rest. close-size first name rest n

pub returns-clause-means : goal.returns-clause-means
returns-clause-means c = close-means
