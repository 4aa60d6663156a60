use Rattle.std.proofs.Common.{◌≡◌, ℕ, None, length}
use Rattle.continuations.specs.Visits.{visit_at}
use Rattle.continuations.proofs.visits.unmet.Given as goal

-- there is room for as many as are counted
abbrev pub invariant-loop-number : goal.invariant-loop-number
invariant-loop-number l = record {
  len : length l.visits.items ≡ l._number;
  none : (k : ℕ) → visit_at l.visits.items k ≡ None;
}
