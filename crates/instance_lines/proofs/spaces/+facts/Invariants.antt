use Rattle.std.proofs.Common.{◌≡◌, ◌++◌, List, drop}
use Rattle.ix_base.specs.declared.content.OwnName.{OwnName}
use Rattle.ix_base.specs.Facts.{facts_of}
use Rattle.ix_base.specs.Once.{in_order}
use Rattle.ix_base.specs.SortedLists.{text_cmp}
use Rattle.instance_lines.specs.Canonical.{fact_names}
use Rattle.instance_lines.specs.Tables.{own_spaces, values_of}
use Rattle.instance_lines.proofs.spaces.+facts.Given as goal

abbrev pub invariant-add_facts-loop-fact : goal.invariant-add_facts-loop-fact
invariant-add_facts-loop-fact l =
    (more : List OwnName) → in_order text_cmp (values_of l.spaces.items ++ own_spaces (fact_names (facts_of (drop l.fact-index l.facts)) ++ more))
    ≡ in_order text_cmp (values_of l.initial.spaces.items ++ own_spaces (fact_names (facts_of l.facts) ++ more))
