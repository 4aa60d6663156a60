use Rattle.std.proofs.Common.{◌≡◌, ◌≤◌, false, Some, map, drop}
use Rattle.ix_base.specs.declared.limits.TheConstants.{MOST_BYTES}
use Rattle.page_verdicts.specs.PageReads.{HasReadSome}
use Rattle.page_verdicts.proofs.made_pages.build_all.Given as goal

abbrev pub invariant-loop-number : goal.invariant-loop-number
invariant-loop-number l = record {
  most : l.forest.sums.bytes ≤ MOST_BYTES;
  keeps : l.forest.keeps ≡ false;
  tags : l.forest.sums.tags ≤ l.forest.sums.bytes;
  read : HasReadSome Some (map (λ p. p.bytes) l.pages) (drop l.number (map (λ p. p.bytes) l.pages)) l.number l.forest;
}
