use Rattle.std.proofs.Common.{◌≡◌, length}
use Rattle.page_rows.proofs.notes.bases_of.Given as goal

-- so many bases are there
abbrev pub invariant-loop-number : goal.invariant-loop-number
invariant-loop-number l = length l.bases.pages ≡ l._number
