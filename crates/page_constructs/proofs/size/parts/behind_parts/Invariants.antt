use Rattle.std.proofs.Common.{None, length, ◌-◌}
use Rattle.page_constructs.specs.Constructs.{after_tag}
use Rattle.page_constructs.specs.Searches.{GoesOn}
use Rattle.page_constructs.specs.Stops.{double}
use Rattle.page_constructs.proofs.size.parts.behind_parts.Given as goal

abbrev pub invariant-parts : goal.invariant-parts
invariant-parts l = GoesOn (after_tag None) l.from (after_tag (double l.inside)) l.at l.text

abbrev pub decreases-parts : goal.decreases-parts
decreases-parts l = length l.text - l.at
