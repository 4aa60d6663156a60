use Rattle.std.proofs.Common.{◌≡◌, ◌∙◌, ap, refl, sym}
use Rattle.ix_base.specs.declared.content.Content.{Content}
use Rattle.ix_base.specs.Facts.{facts_of}
use Rattle.instance_lines.specs.Arrangement.{arranged}
use Rattle.instance_lines.specs.Canonical.{content_spaces}
use Rattle.instance_lines.specs.Elements.{lines_of_facts, ordered_lines}
use Rattle.instance_lines.proofs.ArrangedLaws.{fact_lines-arranged}
use Rattle.instance_lines.proofs.arrangement.put_all_in_order.Goals as goal

pub returns-clause-content : goal.returns-clause-content
unfolding arranged
returns-clause-content c =
    rw (
      c.in_ok-lines.ensures.content,
      c.as_slice.ensures.value,
      c.in_ok-spaces.ensures,
      c.in_ok-put_references_in_order.ensures,
    ) refl

pub returns-clause-lines : goal.returns-clause-lines
returns-clause-lines c =
    let content = c.args.content.now in
    let facts : c.put_references_in_order.new.content.facts ≡ content.facts = ap (λ (x : Content). x.facts) c.in_ok-put_references_in_order.ensures in
    let spaces : c.as_slice.result.now ≡ content_spaces content (facts_of content.facts) = c.as_slice.ensures.value ∙ c.in_ok-spaces.ensures in
    c.in_ok-lines.ensures.lines
    ∙ (λ i. ordered_lines (spaces i) (facts i))
    ∙ sym (fact_lines-arranged content)
    ∙ ap lines_of_facts (sym (returns-clause-content c))
