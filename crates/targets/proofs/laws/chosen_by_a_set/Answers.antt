use Rattle.page_links.proofs.ChoiceLaws.{index-chosen, index-one}
use Rattle.targets.proofs.laws.chosen_by_a_set.Goals as goal

pub returns-clause-one : goal.returns-clause-one
returns-clause-one c names h has id = index-one names h has id

pub returns-clause-chosen : goal.returns-clause-chosen
returns-clause-chosen c names h has = index-chosen names h has
