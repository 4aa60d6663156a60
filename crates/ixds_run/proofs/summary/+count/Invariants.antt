use Rattle.std.proofs.Common.{◌≡◌, ◌+◌, drop}
use Rattle.ix_base.specs.Facts.{facts_of}
use Rattle.page_verdicts.specs.Summary.{item_count, tuple_count}
use Rattle.ixds_run.proofs.summary.+count.Given as goal

abbrev pub invariant-with_facts-loop-fact : goal.invariant-with_facts-loop-fact
invariant-with_facts-loop-fact l = record {
  items : l.counts.items + item_count (facts_of (drop l.fact-index l.facts)) ≡ l.initial.counts.items + item_count (facts_of l.facts);
  tuples : l.counts.tuples + tuple_count (facts_of (drop l.fact-index l.facts)) ≡ l.initial.counts.tuples + tuple_count (facts_of l.facts);
}
