use Rattle.std.proofs.Common.{◌≡◌}
use Rattle.std.specs.List.{All}
use Rattle.ix_base.specs.Elements.{path_above}
use Rattle.ix_base.specs.Membership.{nearest_tuple}
use Rattle.ix_base.specs.Spots.{IsOn}
use Rattle.id_table.specs.Tables.{elements_above}
use Rattle.tuples.proofs.owners.nearest_tuple.Given as goal

-- none of the elements passed is a tuple
abbrev pub invariant-loop-at : goal.invariant-loop-at
invariant-loop-at l = record {
  nearest : nearest_tuple l.page (path_above l.at) ≡ nearest_tuple l.page (path_above l.up);
  pages : All (IsOn l.page) (elements_above l.up) → All (IsOn l.page) (elements_above l.at);
}
