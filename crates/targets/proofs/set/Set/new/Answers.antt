use Rattle.targets.proofs.SetLaws.{keeps-none}
use Rattle.targets.proofs.set.Set.new.Goals as goal

pub invariant_of-result : goal.invariant_of-result
invariant_of-result c = λ u.
    keeps-none c.in_ok-of.field-0 c.new.result.items c.new-2.result c.new-3.result c.new-4.result c.new.ensures.items c.new-2.ensures c.new-3.ensures c.new-4.ensures
