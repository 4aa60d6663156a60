use Rattle.std.proofs.Common.{◌≡◌, ◌++◌, take}
use Rattle.std.specs.List.{flat_map}
use Rattle.id_table.specs.Model.{asked}
use Rattle.id_table.specs.Tables.{all_located}
use Rattle.target_contents.specs.Faults.{refs_at}
use Rattle.target_contents.proofs.links.add_each.Given as goal

-- what those before here miss is added
abbrev pub invariant-loop-spot : goal.invariant-loop-spot
invariant-loop-spot l = l.found ≡ l.initial.found ++ flat_map (refs_at (asked l.index)) (all_located (take l.spot-index l.spot-items))
