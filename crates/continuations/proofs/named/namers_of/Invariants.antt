use Rattle.std.proofs.Common.{take}
use Rattle.ix_base.specs.Chain.{continued_at}
use Rattle.id_table.specs.Tables.{HasEach}
use Rattle.continuations.proofs.named.namers_of.Given as goal

-- the elements before here are entered
abbrev pub invariant-loop-spot : goal.invariant-loop-spot
invariant-loop-spot l = HasEach continued_at l.namers (take l.spot-index l.spot-items)
