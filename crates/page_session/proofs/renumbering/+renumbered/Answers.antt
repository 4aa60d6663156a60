use Rattle.std.proofs.Common.{◌≡◌, ◌∙◌, ◌∷◌, ◌++◌, ap, flat_map, rules, sym}
use Rattle.ix_base.specs.declared.tree.Element.{Element}
use Rattle.std.proofs.lemmas.List.{drop_all}
use Rattle.ix_base.specs.Spaces.{space_of, spaces_bound, spaces_in, spaces_named}
use Rattle.ix_base.specs.Trees.{nodes_of}
use Rattle.ix_base.proofs.SpaceParts.{spaces-Element}
use Rattle.page_session.proofs.CopyLaws.{copied-more, copied-all, all-more, element-pages, spaces-all, spaces-more}
use Rattle.page_session.proofs.renumbering.+renumbered.Goals as goal

pub renumbered-returns-in-Ok-clause-pages : goal.renumbered-returns-in-Ok-clause-pages
renumbered-returns-in-Ok-clause-pages t c =
    element-pages c.args.page c.in-Ok.e.now (search rules) (search rules)

pub renumbered_all-loop-node-preserved : goal.renumbered_all-loop-node-preserved
renumbered_all-loop-node-preserved t c = record {
  copied = copied-more c.args.nodes.now c.loop-node.copies.items c.push.new.self.items c.loop-node.node-index c.node-item.result _
      c.loop-node-test.true c.node-item.is c.loop-node.invariant.copied c.in_ok-renumbered_node.ensures.same (search rules);
  pages = all-more c.args.page c.loop-node.copies.items c.push.new.self.items _ c.loop-node.invariant.pages c.in_ok-renumbered_node.ensures.pages (search rules);
  spaces = spaces-more c.args.nodes.now c.loop-node.copies.items c.push.new.self.items c.loop-node.node-index c.node-item.result _
      c.loop-node-test.true c.node-item.is c.in_ok-renumbered_node.ensures.spaces (search rules) c.loop-node.invariant.spaces;
}

pub renumbered_all-returns-in-Ok-clause-same : goal.renumbered_all-returns-in-Ok-clause-same
renumbered_all-returns-in-Ok-clause-same t c =
    let same : c.in-Ok.copied.now ≡ c.loop-node.copies.items = search rules in
    ap nodes_of same ∙ copied-all c.args.nodes.now c.loop-node.copies.items c.loop-node.node-index
    (drop_all c.loop-node.node-index c.args.nodes.now c.loop-node-test.false) c.loop-node.invariant.copied

pub renumbered_all-returns-in-Ok-clause-spaces : goal.renumbered_all-returns-in-Ok-clause-spaces
renumbered_all-returns-in-Ok-clause-spaces t c =
    let same : c.in-Ok.copied.now ≡ c.loop-node.copies.items = search rules in
    ap (flat_map spaces_in) same
    ∙ spaces-all c.args.nodes.now c.loop-node.copies.items c.loop-node.node-index (drop_all c.loop-node.node-index c.args.nodes.now c.loop-node-test.false) c.loop-node.invariant.spaces

pub renumbered-returns-in-Ok-clause-spaces : goal.renumbered-returns-in-Ok-clause-spaces
renumbered-returns-in-Ok-clause-spaces t c =
    let root = c.args.root.now in
    let same : c.in-Ok.e.now ≡ record { place = record { page = c.args.page; offset = root.place.offset }; name = root.name; attrs = root.attrs; scope = root.scope; children = c.in_ok-children.children } = search rules in
    spaces-Element c.in-Ok.e.now
    ∙ ap (λ (x : Element). space_of x.name.now ∷ (spaces_named x.attrs ++ spaces_bound x.scope ++ flat_map spaces_in x.children.now)) same
    ∙ ap (λ below. space_of root.name.now ∷ (spaces_named root.attrs ++ spaces_bound root.scope ++ below)) c.in_ok-children.ensures.spaces
    ∙ sym (spaces-Element root)
