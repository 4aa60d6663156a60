use Rattle.std.proofs.Common.{take}
use Rattle.ix_base.specs.Ids.{tuple_id_of}
use Rattle.id_table.specs.Tables.{HasEach}
use Rattle.tuples.proofs.members.tuples_of.Given as goal

-- the elements before here are entered
abbrev pub invariant-loop-spot : goal.invariant-loop-spot
invariant-loop-spot l = HasEach tuple_id_of l.tuples (take l.spot-index l.spot-items)
