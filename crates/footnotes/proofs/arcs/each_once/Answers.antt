use Rattle.std.proofs.lemmas.List.Filters.{dedup_is}
use Rattle.footnotes.specs.contracts.arcs.BorrowedArcPartialEq.TheImpl.{ghosts}
use Rattle.footnotes.specs.contracts.arcs.BorrowedArcOrd.TheImpl.Laws.{matches_eq-law}
use Rattle.footnotes.specs.BorrowedArcs.{as_arc}
use Rattle.footnotes.specs.FootnoteLinks.{arc_texts_cmp}
use Rattle.ix_base.proofs.OnceOrdered.{once_in_order}
use Rattle.footnotes.proofs.OnceLaws.{arc_total, same_arc}
use Rattle.footnotes.proofs.arcs.each_once.Goals as goal

pub returns : goal.returns
returns c =
    once_in_order as_arc arc_texts_cmp arc_total same_arc ghosts.eq matches_eq-law
    c.args.arcs.now.items c.sort_unstable.new.self.items c.dedup.new.self.items
    c.sort_unstable.ensures.permutation c.sort_unstable.ensures.sorted (dedup_is _ _ _ c.dedup.ensures.filtered)
