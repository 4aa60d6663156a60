use Rattle.std.proofs.Common.{◌≡◌, ◌++◌, List, drop}
use Rattle.ix_base.specs.declared.content.OwnName.{OwnName}
use Rattle.ix_base.specs.Facts.{facts_of}
use Rattle.instance_lines.specs.Canonical.{fact_names}
use Rattle.instance_lines.specs.Tables.{values_of}
use Rattle.instance_lines.proofs.names.+add.Given as goal

abbrev pub invariant-add_facts-loop-fact : goal.invariant-add_facts-loop-fact
invariant-add_facts-loop-fact l =
    (more : List OwnName) → values_of l.names.items ++ (fact_names (facts_of (drop l.fact-index l.facts)) ++ more) ≡ values_of l.initial.names.items ++ (fact_names (facts_of l.facts) ++ more)
