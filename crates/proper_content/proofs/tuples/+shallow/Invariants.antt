use Rattle.std.proofs.Common.{◌≡◌, drop, leb}
use Rattle.ix_base.specs.Facts.{facts_of}
use Rattle.instance_lines.specs.Writable.{depth}
use Rattle.proper_content.proofs.tuples.+shallow.Given as goal

abbrev pub invariant-are_shallow-loop-fact : goal.invariant-are_shallow-loop-fact
invariant-are_shallow-loop-fact l = leb (depth (facts_of (drop l.fact-index l.facts))) l.most ≡ leb (depth (facts_of l.facts)) l.most
