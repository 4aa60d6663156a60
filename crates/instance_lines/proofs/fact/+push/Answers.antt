use Rattle.std.proofs.Common.{◌∙◌}
use Rattle.ix_base.specs.Facts.{facts_of}
use Rattle.ix_base.specs.WrittenMarkup.{written}
use Rattle.instance_lines.specs.Canonical.{facts_markup}
use Rattle.instance_lines.specs.Elements.{fact_markup}
use Rattle.instance_lines.proofs.MarkupLaws.{written-before}
use Rattle.instance_lines.proofs.Steps.{step}
use Rattle.instance_lines.proofs.fact.+push.Goals as goal

pub push_facts-loop-fact-preserved : goal.push_facts-loop-fact-preserved
push_facts-loop-fact-preserved t c more =
    let spaces = c.args.prefixes.now in
    let x = c.fact-item.result in
    step (λ fs. written (facts_markup spaces (facts_of fs))) (written (fact_markup spaces x)) c.args.facts.now c.loop-fact.fact-index x _ _ _ more
    c.loop-fact-test.true c.fact-item.is (λ ys. written-before spaces x (facts_of ys) more) (λ rest. c.in_ok-push_plain.ensures rest ∙ c.in_ok-push_fact.ensures rest) (c.loop-fact.invariant more)
