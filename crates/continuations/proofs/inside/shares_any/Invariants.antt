use Rattle.std.proofs.Common.{take}
use Rattle.continuations.specs.InnerElements.{SharesAny}
use Rattle.continuations.proofs.inside.shares_any.Given as goal

-- none of those before here is shared
abbrev pub invariant-loop-y : goal.invariant-loop-y
invariant-loop-y l = SharesAny l.courses.nexts.now l.courses.first (take l.y-index l.numbers) l.x → ⊥
