use Rattle.std.proofs.Common.{◌≡◌, ◌∙◌, ap, sym, subst, true, codes, rules, IfOk, Option, option_map}
use Rattle.ix_base.specs.declared.content.NoteLink.{NoteLink}
use Rattle.ix_base.specs.Trees.{nodes_of, tree_of}
use Rattle.instance_tree.specs.ReaderWords.{is_typed}
use Rattle.instance_tree.proofs.EndLaws.{link-read}
use Rattle.instance_tree.proofs.NodeLaws.{children_are}
use Rattle.instance_tree.proofs.notes.notes_of.Goals as goal

pub returns : goal.returns
returns c =
    let e = c.args.e.now in
    let is : c.is_typed.result ≡ true = search rules in
    subst (λ (o : Option NoteLink). IfOk c.link_of.result (λ x. x ≡ o))
    (link-read (tree_of e) (nodes_of e.children.now) c.in-Some.role.now c.in-Some-2.locs c.in-Some-3.footnotes (children_are e)
    (sym c.is_typed.ensures ∙ is) (sym c.xlink_of.ensures ∙ ap (option_map (λ t. t.now)) c.in-Some.is)
    (sym c.in_ok-locs.ensures ∙ c.in-Some-2.is) (sym c.in_ok-footnotes.ensures ∙ c.in-Some-3.is))
    c.link_of.ensures
