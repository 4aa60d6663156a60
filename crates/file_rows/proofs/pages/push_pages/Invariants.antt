use Rattle.std.proofs.Common.{◌≡◌}
use Rattle.file_rows.proofs.pages.push_pages.Given as goal

-- no call failed
abbrev pub invariant-steps : goal.invariant-steps
invariant-steps g l = g.P.PageSource.faults l.pages ≡ 0
