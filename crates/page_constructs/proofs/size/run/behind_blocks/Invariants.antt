use Rattle.std.proofs.Common.{length, ◌-◌, ◌≤◌}
use Rattle.page_constructs.specs.Constructs.{text_size}
use Rattle.page_constructs.specs.Searches.{GoesOn}
use Rattle.page_constructs.proofs.size.run.behind_blocks.Given as goal

abbrev pub invariant-parts : goal.invariant-parts
invariant-parts l = (l.from ≤ l.at) × GoesOn text_size l.from text_size l.at l.text

abbrev pub decreases-parts : goal.decreases-parts
decreases-parts l = length l.text - l.at
