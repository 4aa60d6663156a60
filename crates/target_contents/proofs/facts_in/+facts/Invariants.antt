use Rattle.std.proofs.Common.{◌+◌, take}
use Rattle.id_table.specs.Tables.{all_located}
use Rattle.target_contents.specs.LinkedSets.{SaysIn}
use Rattle.target_contents.specs.TargetFacts.{IsFactOf}
use Rattle.target_contents.proofs.FactsLaws.{Each}
use Rattle.target_contents.proofs.facts_in.+facts.Given as goal

-- tuples are read less and less deep
abbrev pub decreases-facts_at : goal.decreases-facts_at
decreases-facts_at l = l.depth + l.depth + 1

abbrev pub decreases-members_in : goal.decreases-members_in
decreases-members_in l = l.depth + l.depth

-- the facts before here are made
abbrev pub invariant-facts_at-loop-spot : goal.invariant-facts_at-loop-spot
invariant-facts_at-loop-spot l = Each (IsFactOf (SaysIn l.valued) l.valued.elements l.depth) (all_located (take l.spot-index l.spots)) l.facts.items
