use Rattle.std.proofs.Common.{length, subst, List}
use Rattle.std.specs.Borrow.{Bor}
use Rattle.ix_base.specs.declared.tree.Spot.{Spot}
use Rattle.id_table.specs.Tables.{all_located}
use Rattle.continuations.specs.InnerElements.{ArePlaced}
use Rattle.continuations.proofs.seen.places_along.Goals as goal

pub places_among-requires-clause-placed : goal.places_among-requires-clause-placed
places_among-requires-clause-placed c =
    subst (λ (ss : List (Bor Spot)). ArePlaced c.in_ok-numbers.numbers (all_located ss) (length ss)) c.as_slice.ensures.value c.in_ok-numbers.ensures
