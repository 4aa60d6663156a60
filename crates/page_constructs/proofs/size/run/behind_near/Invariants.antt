use Rattle.std.proofs.Common.{length, ◌-◌, ◌≤◌}
use Rattle.page_constructs.specs.Constructs.{text_size}
use Rattle.page_constructs.specs.Searches.{GoesOn}
use Rattle.page_constructs.proofs.size.run.behind_near.Given as goal

abbrev pub invariant-bytes : goal.invariant-bytes
invariant-bytes l = (l.from ≤ l.at) × GoesOn text_size l.from text_size l.at l.text

abbrev pub decreases-bytes : goal.decreases-bytes
decreases-bytes l = length l.text - l.at
