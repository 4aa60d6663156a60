use Rattle.std.proofs.lemmas.List.Filters.{dedup_is}
use Rattle.ix_base.specs.contracts.breach.LinePartialEq.TheImpl.{ghosts}
use Rattle.ix_base.specs.contracts.breach.LineOrd.TheImpl.Laws.{matches_eq-law}
use Rattle.ix_base.proofs.LineLemmas.{lines_in_order}
use Rattle.ix_base.proofs.breach.sort_lines.Goals as goal

pub returns : goal.returns
returns c =
    lines_in_order ghosts.eq matches_eq-law c.args.lines.now.items c.sort_unstable.new.self.items c.dedup.new.self.items
    c.sort_unstable.ensures.permutation c.sort_unstable.ensures.sorted (dedup_is _ _ _ c.dedup.ensures.filtered)
