use Rattle.std.proofs.Common.{length, ◌-◌}
use Rattle.page_constructs.specs.Constructs.{reference_size}
use Rattle.page_constructs.specs.Searches.{GoesOn}
use Rattle.page_constructs.proofs.size.run.reference_size.Given as goal

abbrev pub invariant-bytes : goal.invariant-bytes
invariant-bytes l = GoesOn reference_size l.from reference_size l.at l.text

abbrev pub decreases-bytes : goal.decreases-bytes
decreases-bytes l = length l.text - l.at
