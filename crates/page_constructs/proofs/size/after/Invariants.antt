use Rattle.std.proofs.Common.{length, ◌-◌}
use Rattle.page_constructs.specs.Constructs.{after}
use Rattle.page_constructs.specs.Searches.{GoesOn}
use Rattle.page_constructs.proofs.size.after.Given as goal

abbrev pub invariant-places : goal.invariant-places
invariant-places l = GoesOn (after l.ends) l.from (after l.ends) l.at l.text

abbrev pub decreases-places : goal.decreases-places
decreases-places l = length l.text - l.at
