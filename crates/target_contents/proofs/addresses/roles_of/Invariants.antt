use Rattle.std.proofs.Common.{take}
use Rattle.ix_base.specs.LocatedElements.{base_in}
use Rattle.id_table.specs.Tables.{all_located}
use Rattle.target_contents.specs.RoleAddresses.{AreSeen}
use Rattle.target_contents.proofs.addresses.roles_of.Given as goal

-- the addresses before here are noted
abbrev pub invariant-loop-spot : goal.invariant-loop-spot
invariant-loop-spot l = AreSeen l.kind (base_in l.bases.pages) (all_located (take l.spot-index l.spots)) l.roles
