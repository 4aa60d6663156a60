use Rattle.ixds_run.proofs.RearrangedPages.{made-rearranged, says-rearranged}
use Rattle.ixds_run.proofs.laws.said_in_any_order.Goals as goal

pub returns-clause-set : goal.returns-clause-set
returns-clause-set c base o pages others m = says-rearranged c.sound_tree.ensures.tree base o pages others m

pub returns-clause-command : goal.returns-clause-command
returns-clause-command g = made-rearranged g.sound_tree.ensures.tree g.traced_in_any_order.ensures
