use Rattle.std.proofs.Common.{◌≡◌, ◌++◌, List, ℕ, drop}
use Rattle.ix_base.specs.declared.content.Item.{Item}
use Rattle.ix_base.specs.declared.content.OwnName.{OwnName}
use Rattle.ix_base.specs.Facts.{facts_of}
use Rattle.instance_lines.specs.Canonical.{fact_names}
use Rattle.instance_lines.specs.Holdings.{fact_ids, items_in}
use Rattle.instance_lines.specs.Tables.{values_of}
use Rattle.proper_texts.proofs.held.+hold.Given as goal

abbrev pub invariant-add_facts-loop-fact : goal.invariant-add_facts-loop-fact
invariant-add_facts-loop-fact l = record {
  items :
      (more : List Item) → values_of l.held.items.items ++ (items_in (facts_of (drop l.fact-index l.facts)) ++ more) ≡ values_of l.initial.held.items.items ++ (items_in (facts_of l.facts) ++ more);
  ids :
      (more : List (List ℕ)) → values_of l.held.ids.items ++ (fact_ids (facts_of (drop l.fact-index l.facts)) ++ more) ≡ values_of l.initial.held.ids.items ++ (fact_ids (facts_of l.facts) ++ more);
  names :
      (more : List OwnName) → values_of l.held.names.items ++ (fact_names (facts_of (drop l.fact-index l.facts)) ++ more) ≡ values_of l.initial.held.names.items ++ (fact_names (facts_of l.facts) ++ more);
}
