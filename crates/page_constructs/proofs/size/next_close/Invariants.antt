use Rattle.std.proofs.Common.{Some, length, ◌-◌, ◌≤◌}
use Rattle.page_constructs.specs.Constructs.{after_tag}
use Rattle.page_constructs.specs.Searches.{GoesOn}
use Rattle.page_constructs.proofs.size.next_close.Given as goal

abbrev pub invariant-bytes : goal.invariant-bytes
invariant-bytes l = (l.from ≤ l.at) × GoesOn (after_tag (Some l.closing)) l.from (after_tag (Some l.closing)) l.at l.text

abbrev pub decreases-bytes : goal.decreases-bytes
decreases-bytes l = length l.text - l.at
