use Rattle.page_tree.proofs.LateLaws.{none-size}
use Rattle.page_constructs.proofs.SizeLaws.{sought-none}
use Rattle.page_tree.proofs.pending.Pending.clear.Goals as goal

pub invariant_of-self-clause-unsettled : goal.invariant_of-self-clause-unsettled
invariant_of-self-clause-unsettled c = none-size c.args.self.now.is_first

pub invariant_of-self-clause-searched : goal.invariant_of-self-clause-searched
invariant_of-self-clause-searched c = sought-none c.args.self.now.is_first _ c.unsought-self.result c.unsought-self.ensures
