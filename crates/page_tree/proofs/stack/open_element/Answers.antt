use Rattle.std.proofs.Common.{◌≡◌, ◌∙◌, ◌++◌, [], ap, flat_map, map, subst, sym}
use Rattle.std.proofs.lemmas.List.Elements.{All-append, All-cons, All-nil}
use Rattle.ix_base.specs.Spaces.{space_of, spaces_bound, spaces_in, spaces_named}
use Rattle.ix_base.specs.Trees.{none, nodes_of, bindings_in}
use Rattle.page_tree.specs.Spaces.{HasNumber, HaveNumbers}
use Rattle.page_constructs.specs.Model.{attribute_of, tag_of}
use Rattle.page_tree.proofs.StackLaws.{head-is}
use Rattle.page_tree.proofs.TwiceLaws.{valued-is}
use Rattle.page_tree.proofs.stack.open_element.Goals as goal

pub returns-clause-frame : goal.returns-clause-frame
returns-clause-frame c outer e =
    let scope = bindings_in c.args.own.scope in
    let head = head-is outer scope (tag_of c.args.tag.now) _ _ e (c.requires.same.name ∙ c.requires.named.name)
    (c.in_ok-attrs.ensures.values ∙ ap (map (λ x. x.valued)) c.requires.expanded ∙ valued-is scope (map attribute_of c.args.tag.now.attrs.now)) in
    let done : nodes_of c.args.children.items ≡ none = ap nodes_of c.requires.children in
    λ i. record { written = c.args.tag.now.name.name.now; head = head i; done = done i }

pub returns-clause-spaces : goal.returns-clause-spaces
returns-clause-spaces c = λ from t h.
    let P = HasNumber t in
    let own = spaces_named c.in_ok-attrs.attrs in
    let bound = spaces_bound c.args.own.scope in
    let named : HaveNumbers t own = subst (HaveNumbers t) (sym c.in_ok-attrs.ensures.spaces) (from t h) in
    let none : flat_map spaces_in c.args.children.items ≡ [] = ap (flat_map spaces_in) c.requires.children in
    All-cons P (space_of c.args.kept.now) _ (subst P (sym c.requires.same.space) (c.requires.named.space t h))
    (All-append P (own ++ bound) (flat_map spaces_in c.args.children.items) (All-append P own bound named h) (subst (HaveNumbers t) (sym none) (All-nil P)))
