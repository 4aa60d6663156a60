use Rattle.std.proofs.Common.{rules}
use Rattle.page_session.proofs.ReadLaws.{whole_at_end}
use Rattle.page_session.proofs.reading.read_page.Goals as goal

pub loop-most-preserved : goal.loop-most-preserved
loop-most-preserved g c =
    let read = c.in_ok-read_piece.ensures.reads c.args.taker.now _ _ c.loop-most.invariant.read in search rules

pub returns-then-not-branch-clause-reads : goal.returns-then-not-branch-clause-reads
returns-then-not-branch-clause-reads g c = c.in_ok-read_piece.ensures.reads c.args.taker.now _ _ c.loop-most.invariant.read

pub returns-then-not-branch-clause-whole : goal.returns-then-not-branch-clause-whole
returns-then-not-branch-clause-whole g c =
    whole_at_end _ _ _ _ _ _ (c.in_ok-read_piece.ensures.reads c.args.taker.now _ _ c.loop-most.invariant.read) (c.in_ok-read_piece.ensures.more.0 c.if-not-branch.true)
