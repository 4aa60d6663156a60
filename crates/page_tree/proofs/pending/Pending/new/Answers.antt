use Rattle.std.proofs.Common.{true}
use Rattle.page_tree.proofs.LateLaws.{none-size}
use Rattle.page_constructs.proofs.SizeLaws.{sought-none}
use Rattle.page_tree.proofs.pending.Pending.new.Goals as goal

pub invariant_of-result-clause-unsettled : goal.invariant_of-result-clause-unsettled
invariant_of-result-clause-unsettled c = none-size true

pub invariant_of-result-clause-searched : goal.invariant_of-result-clause-searched
invariant_of-result-clause-searched c = sought-none true _ c.unsought.result c.unsought.ensures
