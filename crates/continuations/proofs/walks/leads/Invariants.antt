use Rattle.std.proofs.Common.{◌≡◌, ◌<◌, ◌≤◌, ℕ, Some}
use Rattle.continuations.specs.Visits.{visit_at}
use Rattle.continuations.specs.Walks.{Reaches}
use Rattle.continuations.proofs.walks.leads.Given as goal

-- the walk from where it has come leads there too, or neither does
abbrev pub invariant-loop-met : goal.invariant-loop-met
invariant-loop-met l = record {
  first : l.courses.first ≤ l.at;
  last : l.at ≤ l.from;
  later : l.to.walk < l.at;
  forth : (j : ℕ) → visit_at l.courses.visits.now j ≡ Some l.to → Reaches l.courses.nexts.now l.from j → Reaches l.courses.nexts.now l.at j;
  back : (j : ℕ) → visit_at l.courses.visits.now j ≡ Some l.to → Reaches l.courses.nexts.now l.at j → Reaches l.courses.nexts.now l.from j;
}

abbrev pub decreases-loop-met : goal.decreases-loop-met
decreases-loop-met l = l.at
