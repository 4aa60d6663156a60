use Rattle.std.proofs.Common.{◌≡◌, ◌++◌, ◌||◌, take}
use Rattle.std.specs.List.{filter, list_any}
use Rattle.ix_base.specs.LinkRules.{lacks_continuation}
use Rattle.ix_base.specs.LocatedElements.{is_continuation}
use Rattle.id_table.specs.Model.{asked}
use Rattle.id_table.specs.Tables.{all_located, chain_spots}
use Rattle.continuations.specs.Numbers.{IsTableOf, numbered_in, nexts_of}
use Rattle.continuations.proofs.links.Numbered.add_all.Given as goal

-- the elements before here are numbered
abbrev pub invariant-loop-element : goal.invariant-loop-element
invariant-loop-element l = record {
  spots : l.self.spots.items ≡ l.initial.self.spots.items ++ chain_spots (take l.element-index l.elements);
  nexts : numbered_in (filter is_continuation l.index.spots) l.self.nexts.items
      ≡ numbered_in (filter is_continuation l.index.spots) l.initial.self.nexts.items ++ nexts_of (asked l.index) (all_located (chain_spots (take l.element-index l.elements)));
  lacks : l.self.lacks ≡ (l.initial.self.lacks || list_any (lacks_continuation (asked l.index)) (all_located (chain_spots (take l.element-index l.elements))));
  table : IsTableOf l.continuations l.self.table;
}
