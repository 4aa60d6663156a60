use Rattle.page_tree.proofs.SpelledRuns.{reference-size, reference-means}
use Rattle.page_tree.proofs.laws.written_reference.Goals as goal

pub returns-clause-cut : goal.returns-clause-cut
returns-clause-cut c = λ inner h first rest. reference-size first inner rest h

pub returns-clause-means : goal.returns-clause-means
returns-clause-means c = reference-means
