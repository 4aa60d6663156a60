use Rattle.ixds_run.proofs.OutcomeLaws.{outcome_one}
use Rattle.ixds_run.proofs.laws.one_outcome.Goals as goal

pub returns : goal.returns
returns c = outcome_one c.one_tree.ensures.one c.no_tree.ensures c.one_item.ensures
