use Rattle.std.proofs.Common.{◌∷◌, ◌++◌, ◌∙◌, ap, flat_map}
use Rattle.ix_base.specs.Elements.{pages_in}
use Rattle.ix_base.specs.declared.tree.Element.{Element}
use Rattle.ix_base.specs.Spaces.{space_of, spaces_bound, spaces_in, spaces_named}
use Rattle.page_tree.proofs.PageNumbers.{pages-Element, spaces-Element}
use Rattle.page_tree.proofs.stack.close_element.Goals as goal

pub returns-in-Ok-try_alloc-clause-pages : goal.returns-in-Ok-try_alloc-clause-pages
returns-in-Ok-try_alloc-clause-pages c =
    pages-Element c.in-Ok-try_alloc.e.now
    ∙ ap (λ (x : Element). x.place.page ∷ flat_map pages_in x.children.now) c.in-Ok-try_alloc.ensures
    ∙ ap (λ ns. c.args.own.place.page ∷ flat_map pages_in ns) (c.in-Ok.ensures ∙ c.as_slice.ensures.value)

pub returns-in-Ok-try_alloc-clause-spaces : goal.returns-in-Ok-try_alloc-clause-spaces
returns-in-Ok-try_alloc-clause-spaces c =
    let own = c.args.own in
    spaces-Element c.in-Ok-try_alloc.e.now
    ∙ ap (λ (x : Element). space_of x.name.now ∷ (spaces_named x.attrs ++ spaces_bound x.scope ++ flat_map spaces_in x.children.now)) c.in-Ok-try_alloc.ensures
    ∙ ap (λ ns. space_of own.name.now ∷ (spaces_named own.attrs ++ spaces_bound own.scope ++ flat_map spaces_in ns)) (c.in-Ok.ensures ∙ c.as_slice.ensures.value)
