use Rattle.std.proofs.Common.{[], take}
use Rattle.std.specs.List.{filter, filter_map}
use Rattle.ix_base.specs.LocatedElements.{is_item}
use Rattle.id_table.specs.Tables.{all_located}
use Rattle.link_ids.specs.Links.{context_named, unit_named}
use Rattle.id_table.specs.Gathered.{Gathers}
use Rattle.target_contents.specs.Visits.{values_of}
use Rattle.target_contents.proofs.parts.each_named.Given as goal

-- the ids that those before here name
abbrev pub invariant-loop-spot : goal.invariant-loop-spot
invariant-loop-spot l = record {
  contexts : Gathers [] (values_of l.named.contexts.items) (filter_map context_named (filter is_item (all_located (take l.spot-index l.spots))));
  units : Gathers [] (values_of l.named.units.items) (filter_map unit_named (filter is_item (all_located (take l.spot-index l.spots))));
}
