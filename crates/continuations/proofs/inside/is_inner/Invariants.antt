use Rattle.std.proofs.Common.{◌↔◌}
use Rattle.ix_base.specs.Elements.{placed, path_above}
use Rattle.continuations.specs.InnerElements.{numbers_at, AnyOf, SharesAny}
use Rattle.continuations.proofs.inside.is_inner.Given as goal

-- none of the elements passed is shared
abbrev pub invariant-loop-up : goal.invariant-loop-up
invariant-loop-up l = AnyOf (λ t. SharesAny l.courses.nexts.now l.courses.first (numbers_at l.numbers l.page t.head.offset) l.x) (placed l.spot).above
    ↔ AnyOf (λ t. SharesAny l.courses.nexts.now l.courses.first (numbers_at l.numbers l.page t.head.offset) l.x) (path_above l.up)
