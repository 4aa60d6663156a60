use Rattle.std.proofs.Common.{◌≡◌, take}
use Rattle.std.specs.List.{All, filter}
use Rattle.ix_base.specs.LocatedElements.{is_fact}
use Rattle.id_table.specs.Model.{asked}
use Rattle.id_table.specs.Tables.{all_located}
use Rattle.tuples.specs.OwnedFacts.{all_seen, IsKnown}
use Rattle.tuples.proofs.facts.facts_of.Given as goal

-- the facts before here are added
abbrev pub invariant-loop-spot : goal.invariant-loop-spot
invariant-loop-spot l = record {
  seen : all_seen l.facts.items ≡ filter is_fact (all_located (take l.spot-index l.spot-items));
  known : All (IsKnown (asked l.index)) l.facts.items;
}
