use Rattle.ix_base.specs.Facts.{before, facts_of, none}
use Rattle.instance_lines.specs.Canonical.{fact_names}
use Rattle.instance_lines.proofs.ArrangedLaws.{names-before}
use Rattle.instance_lines.proofs.SpaceLaws.{step-spaces}
use Rattle.std.proofs.Common.{◌∙◌, ◌++◌}
use Rattle.instance_lines.proofs.Steps.{none_left}
use Rattle.instance_lines.specs.Tables.{values_of, own_spaces}
use Rattle.ix_base.specs.Once.{in_order}
use Rattle.ix_base.specs.SortedLists.{text_cmp}
use Rattle.instance_lines.proofs.spaces.+facts.Goals as goal

pub add_facts-loop-fact-preserved : goal.add_facts-loop-fact-preserved
add_facts-loop-fact-preserved t c more =
    step-spaces (λ fs. fact_names (facts_of fs)) (λ f. fact_names (before f none)) c.args.facts.now c.loop-fact.fact-index c.fact-item.result _ _ _ more
    c.loop-fact-test.true c.fact-item.is (λ ys. names-before c.fact-item.result (facts_of ys)) c.in_ok-add_fact.ensures (c.loop-fact.invariant more)

pub add_facts-returns : goal.add_facts-returns
add_facts-returns t c more =
    none_left (λ l. in_order text_cmp (values_of c.loop-fact.spaces.items ++ own_spaces (fact_names (facts_of l) ++ more))) c.args.facts.now c.loop-fact.fact-index
    c.loop-fact-test.false
    ∙ c.loop-fact.invariant more
