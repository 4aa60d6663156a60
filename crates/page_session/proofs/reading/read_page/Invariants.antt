use Rattle.std.proofs.Common.{◌≡◌, ◌-◌, ◌+◌, ◌≤◌, ◌++◌, ◌∷◌, [], IfSome, length, IsTrue, option_map}
use Rattle.ix_base.specs.declared.limits.TheConstants.{PIECE}
use Rattle.ix_base.specs.Outside.{TellsAlso}
use Rattle.page_session.specs.PieceReads.{HasFed}
use Rattle.page_session.proofs.reading.read_page.Given as goal

abbrev pub invariant-loop-most : goal.invariant-loop-most
invariant-loop-most g l = record {
  faults : g.P.PageSource.faults l.pages ≡ g.P.PageSource.faults l.fn.pages;
  numbers : g.P.PageSource.numbers l.pages ≡ g.P.PageSource.numbers l.fn.pages;
  told : TellsAlso (g.P.PageSource.page l.fn.pages) l.name;
  started : IsTrue (g.P.PageSource.started l.pages);
  room : length l.buffer ≡ PIECE;
  named : IfSome (g.P.PageSource.asked l.pages) (λ n. n ≡ l.name);
  starts : g.P.PageSource.starts l.pages ≡ option_map (λ names. names ++ l.name ∷ []) (g.P.PageSource.starts l.fn.pages);
  page : g.P.PageSource.page l.pages ≡ g.P.PageSource.page l.fn.pages;
  most : l.sums.bytes ≤ l.most.bytes + PIECE;
  tags : l.sums.tags ≤ l.sums.bytes;
  read : HasFed (λ b. g.T.PageTaker.took l.fn.taker b l.taker) (g.P.PageSource.page l.fn.pages l.name) (g.P.PageSource.left l.pages)
      l.fn.sums l.sums;
}

abbrev pub decreases-loop-most : goal.decreases-loop-most
decreases-loop-most g l = l.most.bytes + 1 - l.sums.bytes
