use Rattle.page_tree.proofs.SpelledRuns.{text-size, text-means}
use Rattle.page_tree.proofs.laws.written_text.Goals as goal

pub returns-clause-cut : goal.returns-clause-cut
returns-clause-cut c = λ c text next h n first rest. text-size first c text next rest h n

pub returns-clause-means : goal.returns-clause-means
returns-clause-means c = text-means
