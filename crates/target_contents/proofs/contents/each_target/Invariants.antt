use Rattle.std.proofs.Common.{[], take}
use Rattle.std.specs.List.{flat_map}
use Rattle.id_table.specs.Tables.{all_located}
use Rattle.target_contents.specs.Contents.{targets_at}
use Rattle.id_table.specs.Gathered.{Gathers}
use Rattle.target_contents.specs.Visits.{values_of}
use Rattle.target_contents.proofs.contents.each_target.Given as goal

-- the targets of those before here
abbrev pub invariant-loop-spot : goal.invariant-loop-spot
invariant-loop-spot l = Gathers [] (values_of l.names.items) (flat_map targets_at (all_located (take l.spot-index l.spots)))
