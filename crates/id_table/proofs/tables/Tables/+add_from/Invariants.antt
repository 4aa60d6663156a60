use Rattle.std.proofs.Common.{◌≡◌, ◌++◌, map, drop}
use Rattle.std.specs.List.{All, flat_map}
use Rattle.ix_base.specs.Trees.{nodes_of}
use Rattle.ix_base.specs.Elements.{below, pages_in, path_of, placed}
use Rattle.id_table.specs.Tables.{AreWhole, all_located, marked_on}
use Rattle.id_table.proofs.tables.Tables.+add_from.Given as goal

-- what is added and what is left are what is due
abbrev pub invariant-loop-node : goal.invariant-loop-node
invariant-loop-node l = record {
  spots : all_located l.self.spots.items ++ marked_on l.element.place.page (below (path_of (placed l.spot)) (nodes_of (drop l.node-index l.node-items)))
      ≡ all_located l.initial.self.spots.items ++ marked_on l.element.place.page (below (path_of (placed l.spot)) (nodes_of l.node-items));
  whole : AreWhole l.self.ids l.self.tuples l.self.lists l.self.repeats l.self.spots.items;
  left : All (λ p. p ≡ l.element.place.page) (flat_map (λ ps. ps) (map pages_in (drop l.node-index l.node-items)));
}
