use Rattle.std.proofs.Common.{◌≡◌, ◌<◌, ℕ, true}
use Rattle.continuations.specs.Walks.{is_marked}
use Rattle.continuations.proofs.marks.are_marked.Given as goal

-- those before here are marked
abbrev pub invariant-loop-number : goal.invariant-loop-number
invariant-loop-number l = (k : ℕ) → k < l.number → is_marked l.marks k ≡ true
