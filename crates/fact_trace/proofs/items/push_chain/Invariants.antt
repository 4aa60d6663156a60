use Rattle.std.proofs.Common.{◌≡◌, ◌++◌, drop, map}
use Rattle.std.specs.List.{flat_map}
use Rattle.id_table.specs.Tables.{all_located}
use Rattle.fact_trace.specs.Model.{sources_of}
use Rattle.fact_trace.specs.Spans.{lying_at, spans_in}
use Rattle.fact_trace.proofs.items.push_chain.Given as goal

-- what is added and what is left are what is due
abbrev pub invariant-loop-spot : goal.invariant-loop-spot
invariant-loop-spot l = l.spans ++ flat_map (spans_in (sources_of l.pages)) (map lying_at (all_located (drop l.spot-index l.chain)))
    ≡ l.initial.spans ++ flat_map (spans_in (sources_of l.pages)) (map lying_at (all_located l.chain))
