use Rattle.std.proofs.Common.{◌≡◌, []}
use Rattle.page_rows.proofs.sets.add_pages.Given as goal

-- nothing is chosen
abbrev pub invariant-loop-page : goal.invariant-loop-page
invariant-loop-page l = l.index.choices ≡ []
