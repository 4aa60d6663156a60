use Rattle.std.proofs.Common.{◌≡◌, take}
use Rattle.std.specs.List.{filter_map}
use Rattle.ix_base.specs.Ids.{unit_for}
use Rattle.target_contents.specs.Visits.{values_of}
use Rattle.target_contents.proofs.parts.units_of.Given as goal

-- the units of the ids before here
abbrev pub invariant-loop-id : goal.invariant-loop-id
invariant-loop-id l = l.units ≡ filter_map (unit_for l.index.spots) (values_of (take l.id-index l.ids))
