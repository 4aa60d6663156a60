use Rattle.id_table.specs.Tables.{all_located}
use Rattle.continuations.specs.Places.{HoldsMarked}
use Rattle.continuations.proofs.places.marked_places.Given as goal

-- the places of the marked ones before here are kept
abbrev pub invariant-loop-number : goal.invariant-loop-number
invariant-loop-number l = HoldsMarked l.places (all_located l.spots) l.marks l.number
