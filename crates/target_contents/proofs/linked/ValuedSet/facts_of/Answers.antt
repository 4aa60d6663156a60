use Rattle.std.proofs.Common.{◌≡◌, ◌∙◌, [], ap, cond, subst, sym}
use Rattle.std.specs.List.{filter}
use Rattle.ix_base.specs.LocatedElements.{is_fact}
use Rattle.id_table.specs.Tables.{all_located}
use Rattle.target_contents.specs.Groups.{AreGroups, is_fact_of}
use Rattle.target_contents.specs.LinkedSets.{BasedElements, all_of}
use Rattle.target_contents.proofs.NoTargets.{facts-of-default}
use Rattle.target_contents.proofs.linked.ValuedSet.facts_of.Goals as goal

pub returns-then-has_targets : goal.returns-then-has_targets
returns-then-has_targets c =
    let target = c.args.target.now in
    let groups = subst (λ (b : BasedElements). AreGroups c.self.inside.groups b.elements) (sym c.set.view_is) c.self.invariant.1 in
    subst (λ (b : BasedElements). all_located c.at.result.now ≡ filter (is_fact_of target) b.elements) (c.set.view_is ∙ c.self.view_is)
    (ap all_located c.at.ensures ∙ groups.facts (sym c.has_targets.ensures ∙ c.if-has_targets.true) target)

pub returns-then-is_empty : goal.returns-then-is_empty
returns-then-is_empty c =
    let es = all_of c.set.inside.linked.now in
    let target = c.args.target.now in
    subst (λ (b : BasedElements). all_located c.facts-facts.result.now ≡ filter (is_fact_of target) b.elements) (c.set.view_is ∙ c.self.view_is)
    (c.facts-facts.ensures.elements
    ∙ sym (facts-of-default target es (sym c.has_targets.ensures ∙ c.if-has_targets.false)
    ∙ ap (λ b. cond b (filter is_fact es) []) (sym c.is_empty.ensures ∙ c.if-is_empty.true)))

pub returns-else-is_empty : goal.returns-else-is_empty
returns-else-is_empty c =
    let es = all_of c.set.inside.linked.now in
    let target = c.args.target.now in
    subst (λ (b : BasedElements). [] ≡ filter (is_fact_of target) b.elements) (c.set.view_is ∙ c.self.view_is)
    (sym (facts-of-default target es (sym c.has_targets.ensures ∙ c.if-has_targets.false)
    ∙ ap (λ b. cond b (filter is_fact es) []) (sym c.is_empty.ensures ∙ c.if-is_empty.false)))
