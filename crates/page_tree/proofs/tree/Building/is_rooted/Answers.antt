use Rattle.std.proofs.Common.{sym, ◌∙◌}
use Rattle.std.specs.Borrow.{Bor}
use Rattle.ix_base.specs.declared.tree.Element.{Element}
use Rattle.ix_base.specs.Trees.{tree_of}
use Rattle.page_tree.proofs.StackLaws.{rooted-outside, rooted-inside, is_some-map}
use Rattle.page_tree.proofs.tree.Building.is_rooted.Goals as goal

pub returns-then-is_outside : goal.returns-then-is_outside
returns-then-is_outside c =
    c.is_some.ensures ∙ sym (is_some-map (λ (e : Bor Element). tree_of e.now) c.args.self.now.root)
    ∙ rooted-outside c.args.self.now.elements.items _ (sym c.is_outside.ensures ∙ c.if-is_outside.true)

pub returns : goal.returns
returns c = rooted-inside c.args.self.now.elements.items _ (sym c.is_outside.ensures ∙ c.if-is_outside.false)
