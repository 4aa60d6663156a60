use Rattle.std.proofs.Common.{◌≡◌, ◌++◌, take}
use Rattle.id_table.specs.Tables.{all_located, AreOnOwnPages}
use Rattle.tuples.specs.OwnedFacts.{all_seen}
use Rattle.tuples.proofs.slices.push_spots.Given as goal

-- those before here are added
abbrev pub invariant-loop-fact : goal.invariant-loop-fact
invariant-loop-fact l = record {
  spots : all_located l.to.items ≡ all_located l.initial.to.items ++ all_seen (take l.fact-index l.facts);
  pages : AreOnOwnPages l.to.items;
}
