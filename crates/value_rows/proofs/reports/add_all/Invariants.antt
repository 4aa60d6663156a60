use Rattle.std.proofs.Common.{◌<◌, All}
use Rattle.value_rows.proofs.reports.add_all.Given as goal

abbrev pub invariant-loop-found : goal.invariant-loop-found
invariant-loop-found l = All (λ f. f.place.page < l.count) l.breaches
