use Rattle.std.proofs.Common.{◌≡◌, ◌⊎◌, ◌≤◌, ◌++◌, vec_len, drop, take, option_map}
use Rattle.ix_base.specs.declared.limits.TheConstants.{MOST_BYTES, PIECE}
use Rattle.page_verdicts.specs.PageReads.{HasReadSome, IsLast}
use Rattle.page_verdicts.proofs.read_pages.read_all.Given as goal

abbrev pub invariant-loop-number : goal.invariant-loop-number
invariant-loop-number g l = record {
  faults : g.P.PageSource.faults l.pages ≡ g.P.PageSource.faults l.fn.pages;
  numbers : g.P.PageSource.numbers l.pages ≡ g.P.PageSource.numbers l.fn.pages;
  page : g.P.PageSource.page l.pages ≡ g.P.PageSource.page l.fn.pages;
  room : vec_len l.buffer ≡ PIECE;
  most : l.forest.sums.bytes ≤ MOST_BYTES;
  tags : l.forest.sums.tags ≤ l.forest.sums.bytes;
  read : HasReadSome (g.P.PageSource.page l.fn.pages) l.names (drop l.number l.names) l.number l.forest;
  starts : g.P.PageSource.starts l.pages ≡ option_map (λ starts. starts ++ take l.number l.names) (g.P.PageSource.starts l.fn.pages);
  keeps : l.forest.keeps ≡ l.keeps;
  same : l.number ≡ 0 → l.pages ≡ l.fn.pages;
  stops : (l.number ≡ 0) ⊎ IsLast (g.P.PageSource.page l.fn.pages) l.names (drop l.number l.names) (g.P.PageSource.left l.pages) (g.P.PageSource.asked l.pages);
}
