use Rattle.ix_base.specs.declared.limits.TheConstants.{DEEPEST_ELEMENT}
use Rattle.std.proofs.Common.{◌∙◌, ℕ, [], ◌++◌, subst}
use Rattle.ix_base.specs.Sound.{IsSoundRoot}
use Rattle.ix_base.specs.Trees.{tree_of}
use Rattle.page_tree.specs.Page.{page}
use Rattle.page_tree.specs.Model.{page_number}
use Rattle.page_rows.proofs.sound_pages.sound_root.Goals as goal

pub returns : goal.returns
returns c =
    let bytes = [] ++ c.as_bytes.result.now in
    let root = c.in-Ok.root.now in
    let stands = c.in_ok-feed.ensures.stands [] c.new-builder.ensures.stands in
    let is = subst (λ (depth : ℕ). page bytes depth (tree_of root)) (c.in_ok-feed.ensures.limit ∙ c.new-builder.ensures.limit) (c.in-Ok.ensures.root bytes stands) in
    subst (λ (number : ℕ). IsSoundRoot root number DEEPEST_ELEMENT) (c.in_ok-feed.ensures.page ∙ c.new-builder.ensures.page)
    (c.sound_tree.ensures.root bytes DEEPEST_ELEMENT (page_number c.feed.new.self) root is (c.in-Ok.ensures.page bytes stands) (c.in-Ok.ensures.spaces bytes stands))
