use Rattle.std.proofs.Common.{◌≡◌, ◌++◌, take}
use Rattle.std.specs.List.{flat_map}
use Rattle.ix_base.specs.LocatedElements.{base_in}
use Rattle.id_table.specs.Model.{asked}
use Rattle.id_table.specs.Tables.{all_located}
use Rattle.target_contents.specs.Faults.{redirected_at}
use Rattle.target_contents.proofs.addresses.add_redirected.Given as goal

-- those before here are added
abbrev pub invariant-loop-spot : goal.invariant-loop-spot
invariant-loop-spot l = l.found ≡ l.initial.found ++ flat_map (redirected_at (base_in l.bases.pages) (asked l.index)) (all_located (take l.spot-index l.spot-items))
