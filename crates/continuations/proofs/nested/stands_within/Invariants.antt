use Rattle.std.proofs.Common.{◌≡◌}
use Rattle.std.specs.List.{list_any}
use Rattle.ix_base.specs.Elements.{path_above}
use Rattle.ix_base.specs.LocatedElements.{located}
use Rattle.continuations.specs.Nesting.{is_around}
use Rattle.id_table.specs.Slices.{is_key}
use Rattle.continuations.proofs.nested.stands_within.Given as goal

-- none of the elements passed is at one of the places
abbrev pub invariant-loop-up : goal.invariant-loop-up
invariant-loop-up l = is_around l.places (located l.spot) ≡ list_any (λ t. list_any (is_key l.page t.head.offset) l.places) (path_above l.up)
