use Rattle.std.proofs.Common.{◌∙◌, ap, ◌++◌, append_assoc}
use Rattle.ix_base.specs.Facts.{before, facts_of, none}
use Rattle.instance_lines.specs.Canonical.{fact_names}
use Rattle.instance_lines.proofs.ArrangedLaws.{names-before}
use Rattle.instance_lines.proofs.Steps.{step, none_left}
use Rattle.instance_lines.specs.Tables.{values_of}
use Rattle.instance_lines.proofs.names.+add.Goals as goal

pub add_facts-loop-fact-preserved : goal.add_facts-loop-fact-preserved
add_facts-loop-fact-preserved t c more =
    let x = c.fact-item.result in
    step (λ fs m. fact_names (facts_of fs) ++ m) (λ m. fact_names (before x none) ++ m) c.args.facts.now c.loop-fact.fact-index x _ _ _ more
    c.loop-fact-test.true c.fact-item.is
    (λ ys. ap (λ l. l ++ more) (names-before x (facts_of ys)) ∙ append_assoc (fact_names (before x none)) (fact_names (facts_of ys)) more)
    c.in_ok-add_fact.ensures (c.loop-fact.invariant more)

pub add_facts-returns : goal.add_facts-returns
add_facts-returns t c more =
    none_left (λ l. values_of c.loop-fact.names.items ++ (fact_names (facts_of l) ++ more)) c.args.facts.now c.loop-fact.fact-index
    c.loop-fact-test.false
    ∙ c.loop-fact.invariant more
