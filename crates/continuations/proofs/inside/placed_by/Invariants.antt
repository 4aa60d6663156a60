use Rattle.id_table.specs.Tables.{all_located}
use Rattle.continuations.specs.InnerElements.{ArePlaced}
use Rattle.continuations.proofs.inside.placed_by.Given as goal

-- the elements before here are entered
abbrev pub invariant-loop-number : goal.invariant-loop-number
invariant-loop-number l = ArePlaced l.numbers (all_located l.spots) l.number
