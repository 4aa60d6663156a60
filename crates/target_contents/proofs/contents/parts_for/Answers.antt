use Rattle.std.proofs.Common.{◌≡◌, ◌∙◌, ap, subst, sym}
use Rattle.std.specs.List.{filter}
use Rattle.std.specs.Prelude.{IfOk}
use Rattle.std.proofs.lemmas.Result.{IfOk-weaker}
use Rattle.ix_base.specs.LocatedElements.{is_item}
use Rattle.id_table.specs.Tables.{all_located}
use Rattle.target_contents.specs.Contents.{contexts_of, units_of}
use Rattle.target_contents.specs.Groups.{is_fact_of}
use Rattle.target_contents.specs.LinkedSets.{BasedElements, all_of}
use Rattle.target_contents.proofs.ContentLaws.{items-are}
use Rattle.target_contents.proofs.NamedLaws.{contexts-named, units-named}
use Rattle.target_contents.proofs.contents.parts_for.Goals as goal

pub returns-then-are_all_of-clause-contexts : goal.returns-then-are_all_of-clause-contexts
returns-then-are_all_of-clause-contexts c =
    let l = c.set.inside.linked.now in
    let es = all_of l in
    let target = c.args.target.now in
    let items = c.are_all_of.ensures.items c.if-are_all_of.true in
    subst (λ (b : BasedElements). IfOk c.parts_of.result (λ p. p.0 ≡ contexts_of b.elements target)) (c.set.view_is ∙ c.valued.view_is)
    (IfOk-weaker c.parts_of.result _ _ (λ p h. h ∙ contexts-named es es target l.named c.set.invariant.0.named items) c.parts_of.ensures.contexts)

pub returns-then-are_all_of-clause-units : goal.returns-then-are_all_of-clause-units
returns-then-are_all_of-clause-units c =
    let l = c.set.inside.linked.now in
    let es = all_of l in
    let target = c.args.target.now in
    let items = c.are_all_of.ensures.items c.if-are_all_of.true in
    subst (λ (b : BasedElements). IfOk c.parts_of.result (λ p. p.1 ≡ units_of b.elements target)) (c.set.view_is ∙ c.valued.view_is)
    (IfOk-weaker c.parts_of.result _ _ (λ p h. h ∙ units-named es es target l.named c.set.invariant.0.named items) c.parts_of.ensures.units)

pub returns-clause-contexts : goal.returns-clause-contexts
returns-clause-contexts c =
    let es = all_of c.set.inside.linked.now in
    let target = c.args.target.now in
    let is = c.set.view_is ∙ c.valued.view_is in
    let facts = subst (λ (b : BasedElements). all_located c.facts_of.result.now ≡ filter (is_fact_of target) b.elements) (sym is) c.facts_of.ensures in
    let items = ap (filter is_item) facts ∙ items-are es target in
    subst (λ (b : BasedElements). IfOk c.parts_of-2.result (λ p. p.0 ≡ contexts_of b.elements target)) is
    (IfOk-weaker c.parts_of-2.result _ _ (λ p h. h ∙ contexts-named es _ target c.in_ok-named.named c.in_ok-named.ensures items) c.parts_of-2.ensures.contexts)

pub returns-clause-units : goal.returns-clause-units
returns-clause-units c =
    let es = all_of c.set.inside.linked.now in
    let target = c.args.target.now in
    let is = c.set.view_is ∙ c.valued.view_is in
    let facts = subst (λ (b : BasedElements). all_located c.facts_of.result.now ≡ filter (is_fact_of target) b.elements) (sym is) c.facts_of.ensures in
    let items = ap (filter is_item) facts ∙ items-are es target in
    subst (λ (b : BasedElements). IfOk c.parts_of-2.result (λ p. p.1 ≡ units_of b.elements target)) is
    (IfOk-weaker c.parts_of-2.result _ _ (λ p h. h ∙ units-named es _ target c.in_ok-named.named c.in_ok-named.ensures items) c.parts_of-2.ensures.units)
