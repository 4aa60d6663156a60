use Rattle.std.proofs.Common.{◌≡◌, map, take}
use Rattle.ix_base.specs.LocatedElements.{base_in}
use Rattle.id_table.specs.Tables.{all_located}
use Rattle.ix_base.specs.LinkRules.{address_of}
use Rattle.target_contents.proofs.references.addresses_at.Given as goal

-- the addresses before here are made
abbrev pub invariant-loop-spot : goal.invariant-loop-spot
invariant-loop-spot l = l.addresses ≡ map (address_of (base_in l.bases.pages)) (all_located (take l.spot-index l.spots))
