use Rattle.std.proofs.Common.{None, length, ◌-◌, ◌≤◌}
use Rattle.page_constructs.specs.Constructs.{after_tag}
use Rattle.page_constructs.specs.Searches.{GoesOn}
use Rattle.page_constructs.proofs.size.next_outside.Given as goal

abbrev pub invariant-bytes : goal.invariant-bytes
invariant-bytes l = (l.from ≤ l.at) × GoesOn (after_tag None) l.from (after_tag None) l.at l.text

abbrev pub decreases-bytes : goal.decreases-bytes
decreases-bytes l = length l.text - l.at
