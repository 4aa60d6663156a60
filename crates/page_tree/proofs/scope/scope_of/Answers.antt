use Rattle.std.proofs.Common.{◌≡◌, ◌∙◌, [], ap, map}
use Rattle.std.specs.List.{filter_map}
use Rattle.std.proofs.lemmas.Result.{IfOk-weaker}
use Rattle.ix_base.specs.Scope.{scope_under}
use Rattle.ix_base.specs.Trees.{bindings_in}
use Rattle.ix_base.proofs.UnderLemmas.{ordered-scope}
use Rattle.page_tree.specs.Orders.{bound_under, entered}
use Rattle.page_tree.specs.Tags.{binding_of}
use Rattle.page_constructs.specs.Model.{attribute_of}
use Rattle.page_tree.proofs.DeclaredLaws.{ordered-once, under-once}
use Rattle.page_tree.proofs.scope.scope_of.Goals as goal

pub scope_declaring-requires : goal.scope_declaring-requires
scope_declaring-requires c =
    let bs = filter_map binding_of (map attribute_of c.args.attrs.now) in
    let none : map entered c.new-declared.result.entries ≡ [] = ap (map entered) c.new-declared.ensures.empty in
    ordered-once c.collect.new.declared.entries bs (c.in_ok-collect.ensures ∙ ap (λ s. bound_under s bs) none)

pub returns-clause-bindings : goal.returns-clause-bindings
returns-clause-bindings c =
    let scope = bindings_in c.args.scope in
    let es = c.collect.new.declared.entries in
    let bs = filter_map binding_of (map attribute_of c.args.attrs.now) in
    let none : map entered c.new-declared.result.entries ≡ [] = ap (map entered) c.new-declared.ensures.empty in
    IfOk-weaker c.scope_declaring.result (λ s. bindings_in s ≡ scope_under scope (map entered es)) (λ s. bindings_in s ≡ scope_under scope bs)
    (λ s e. e ∙ under-once es bs (c.in_ok-collect.ensures ∙ ap (λ s. bound_under s bs) none) scope (ordered-scope c.args.scope)) c.scope_declaring.ensures.bindings
