use Rattle.std.proofs.Common.{◌≡◌, ◌++◌, List, ℕ, drop}
use Rattle.ix_base.specs.Facts.{facts_of}
use Rattle.ix_base.specs.WrittenMarkup.{written}
use Rattle.instance_lines.specs.Canonical.{facts_markup}
use Rattle.instance_lines.proofs.fact.+push.Given as goal

abbrev pub invariant-push_facts-loop-fact : goal.invariant-push_facts-loop-fact
invariant-push_facts-loop-fact l =
    (more : List ℕ) → l.out ++ written (facts_markup l.prefixes (facts_of (drop l.fact-index l.facts))) more ≡ l.initial.out ++ written (facts_markup l.prefixes (facts_of l.facts)) more
