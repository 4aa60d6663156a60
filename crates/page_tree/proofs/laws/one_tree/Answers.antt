use Rattle.page_tree.proofs.PageLaws.{found, one}
use Rattle.page_tree.proofs.laws.one_tree.Goals as goal

pub returns-clause-found : goal.returns-clause-found
returns-clause-found c = found

pub returns-clause-one : goal.returns-clause-one
returns-clause-one c = one
