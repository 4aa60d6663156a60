use Rattle.std.proofs.Common.{◌≡◌, ◌++◌, take}
use Rattle.std.specs.List.{All, filter}
use Rattle.ix_base.specs.LinkRules.{is_relationship}
use Rattle.id_table.specs.Model.{asked}
use Rattle.id_table.specs.Tables.{all_located}
use Rattle.footnotes.specs.NamedEnds.{all_seen, IsKnown}
use Rattle.footnotes.proofs.relationships.push_relationships.Given as goal

-- the relationships before here are added
abbrev pub invariant-loop-spot : goal.invariant-loop-spot
invariant-loop-spot l = record {
  seen : all_seen l.relationships.items ≡ all_seen l.initial.relationships.items ++ filter is_relationship (all_located (take l.spot-index l.spot-items));
  known : All (IsKnown (asked l.index)) l.relationships.items;
}
