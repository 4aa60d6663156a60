use Rattle.std.proofs.Common.{◌≡◌, take}
use Rattle.std.specs.List.{filter_map}
use Rattle.ix_base.specs.Ids.{context_for}
use Rattle.target_contents.specs.Visits.{values_of}
use Rattle.target_contents.proofs.parts.contexts_of.Given as goal

-- the contexts of the ids before here
abbrev pub invariant-loop-id : goal.invariant-loop-id
invariant-loop-id l = l.contexts ≡ filter_map (context_for l.index.spots) (values_of (take l.id-index l.ids))
