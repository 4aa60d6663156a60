use Rattle.std.proofs.Common.{take}
use Rattle.id_table.specs.Tables.{HasEach}
use Rattle.target_contents.specs.Groups.{key_by}
use Rattle.target_contents.proofs.groups.grouped.Given as goal

-- the elements before here are entered
abbrev pub invariant-loop-spot : goal.invariant-loop-spot
invariant-loop-spot l = HasEach (key_by l.group) l.holders (take l.spot-index l.spots)
