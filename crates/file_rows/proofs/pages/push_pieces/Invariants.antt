use Rattle.std.proofs.Common.{◌≡◌, IsTrue}
use Rattle.file_rows.proofs.pages.push_pieces.Given as goal

-- a page is started, and no call failed
abbrev pub invariant-reads : goal.invariant-reads
invariant-reads g l = (g.P.PageSource.faults l.pages ≡ 0) × IsTrue (g.P.PageSource.started l.pages)
