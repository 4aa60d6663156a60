use Rattle.std.proofs.Common.{◌≡◌, drop}
use Rattle.ix_base.specs.Facts.{facts_of}
use Rattle.instance_out.specs.Proper.{nil_is_empty}
use Rattle.proper_content.proofs.tuples.+empty.Given as goal

abbrev pub invariant-are_nil_empty-loop-fact : goal.invariant-are_nil_empty-loop-fact
invariant-are_nil_empty-loop-fact l = nil_is_empty (facts_of (drop l.fact-index l.facts)) ≡ nil_is_empty (facts_of l.facts)
