use Rattle.std.proofs.Common.{length, ◌-◌, ◌∷◌, []}
use Rattle.page_constructs.specs.Constructs.{after}
use Rattle.page_constructs.specs.Searches.{GoesOn}
use Rattle.page_constructs.proofs.size.after_byte.Given as goal

abbrev pub invariant-bytes : goal.invariant-bytes
invariant-bytes l = GoesOn (after (l.end ∷ [])) l.from (after (l.end ∷ [])) l.at l.text

abbrev pub decreases-bytes : goal.decreases-bytes
decreases-bytes l = length l.text - l.at
