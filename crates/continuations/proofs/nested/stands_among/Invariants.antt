use Rattle.std.proofs.Common.{◌≡◌}
use Rattle.std.specs.List.{list_any}
use Rattle.ix_base.specs.Elements.{path_above}
use Rattle.ix_base.specs.LinkRules.{is_at, stands_inside}
use Rattle.ix_base.specs.LocatedElements.{located}
use Rattle.id_table.specs.Tables.{all_located}
use Rattle.continuations.proofs.nested.stands_among.Given as goal

-- none of the elements passed is at the place of one of these
abbrev pub invariant-loop-up : goal.invariant-loop-up
invariant-loop-up l = stands_inside (all_located l.spots) (located l.spot) ≡ list_any (λ t. list_any (is_at l.page t.head.offset) (all_located l.spots)) (path_above l.up)
