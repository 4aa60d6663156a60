use Rattle.std.proofs.Common.{flat_map, subst, sym}
use Rattle.std.proofs.lemmas.Result.{IfOk-weaker}
use Rattle.page_tree.specs.Spaces.{HaveNumbers}
use Rattle.page_tree.specs.Stacks.{spaces_open}
use Rattle.page_tree.proofs.tree.Building.element_scope.Goals as goal

pub returns-clause-spaces : goal.returns-clause-spaces
returns-clause-spaces c =
    let numbers = c.scope_of.new.spaces.numbers in
    IfOk-weaker c.scope_of.result _ _
    (λ s h all. h (c.in_ok-outer.ensures.spaces numbers (subst (λ os. HaveNumbers numbers (flat_map spaces_open os)) (sym c.deref.ensures.value) all)))
    c.scope_of.ensures.spaces
