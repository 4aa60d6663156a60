use Rattle.std.proofs.Common.{subst}
use Rattle.target_contents.specs.Groups.{AreGroups}
use Rattle.target_contents.specs.LinkedSets.{BasedElements}
use Rattle.target_contents.proofs.contents.all_targets.Goals as goal

pub invariant_of-valued : goal.invariant_of-valued
invariant_of-valued c =
    (c.requires, subst (λ (b : BasedElements). AreGroups c.in_ok-groups.groups b.elements) c.set.view_is c.in_ok-groups.ensures)
