use Rattle.std.proofs.Common.{◌≡◌, length}
use Rattle.page_rows.proofs.standing.push_each.Given as goal

abbrev pub invariant-loop-page : goal.invariant-loop-page
invariant-loop-page l = length l.set.held.pages ≡ l.number
