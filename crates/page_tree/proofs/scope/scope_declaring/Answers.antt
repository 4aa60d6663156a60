use Rattle.std.proofs.Common.{◌≡◌, ◌∙◌, ◌++◌, ap, map, length, rules, subst, sym}
use Rattle.std.proofs.lemmas.List.Elements.{All-append}
use Rattle.std.proofs.lemmas.Result.{IfOk-weaker}
use Rattle.ix_base.specs.Bindings.{bound}
use Rattle.ix_base.specs.Scope.{scope_under}
use Rattle.ix_base.specs.Spaces.{space_bound, spaces_bound}
use Rattle.ix_base.specs.Trees.{bindings_in}
use Rattle.page_tree.specs.Orders.{entered}
use Rattle.page_tree.specs.Spaces.{HasNumber, HaveNumbers}
use Rattle.page_tree.proofs.DeclaredLaws.{under-none}
use Rattle.page_tree.proofs.scope.scope_declaring.Goals as goal

pub returns-then-is_empty-clause-bindings : goal.returns-then-is_empty-clause-bindings
returns-then-is_empty-clause-bindings c =
    let none : length c.args.declared.now.entries ≡ 0 = search rules in under-none (bindings_in c.args.scope) c.args.declared.now.entries none

pub returns-clause-bindings : goal.returns-clause-bindings
returns-clause-bindings c =
    let scope = bindings_in c.args.scope in
    IfOk-weaker c.inner_scope.result (λ s. bindings_in s ≡ scope_under scope (map bound c.in_ok-own.own.list.now))
    (λ s. bindings_in s ≡ scope_under scope (map entered c.args.declared.now.entries)) (λ s e. e ∙ ap (scope_under scope) c.in_ok-own.ensures.list) c.inner_scope.ensures.bindings

pub returns-clause-spaces : goal.returns-clause-spaces
returns-clause-spaces c =
    let t = c.kept.new.spaces.numbers in
    let own = map space_bound c.in_ok-own.own.list.now in
    let outer = spaces_bound c.args.scope in
    IfOk-weaker c.inner_scope.result (λ s. spaces_bound s ≡ own ++ outer) (λ s. HaveNumbers t outer → HaveNumbers t (spaces_bound s))
    (λ s e h. subst (HaveNumbers t) (sym e) (All-append (HasNumber t) own outer c.in_ok-own.ensures.spaces h)) c.inner_scope.ensures.spaces
