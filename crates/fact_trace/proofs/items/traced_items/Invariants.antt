use Rattle.std.proofs.Common.{◌≡◌, ◌++◌, drop, map, filter}
use Rattle.ix_base.specs.LocatedElements.{is_item}
use Rattle.id_table.specs.Tables.{all_located}
use Rattle.fact_trace.specs.Model.{sources_of}
use Rattle.fact_trace.specs.Spans.{traced_of}
use Rattle.fact_trace.proofs.items.traced_items.Given as goal

-- what is added and what is left are what is due
abbrev pub invariant-loop-spot : goal.invariant-loop-spot
invariant-loop-spot l = l.items.items ++ map (traced_of (sources_of l.pages)) (filter is_item (all_located (drop l.spot-index l.spots)))
    ≡ map (traced_of (sources_of l.pages)) (filter is_item (all_located l.spots))
