use Rattle.std.proofs.Common.{◌≡◌, Option, None, Some}
use Rattle.std.specs.Borrow.{Bor}
use Rattle.std.specs.Prelude.{IfSome}
use Rattle.ix_base.specs.Elements.{pages_of}
use Rattle.ix_base.specs.Spaces.{AreNumbered, spaces_of}
use Rattle.ix_base.specs.declared.tree.Element.{Element}
use Rattle.page_tree.specs.Spaces.{HasNumber, HaveNumbers}
use Rattle.page_tree.specs.Stacks.{pages_open, spaces_open}
use Rattle.page_tree.specs.declared.spaces.Spaces.{Spaces}
use Rattle.page_tree.proofs.BuiltLaws.{root-built}
use Rattle.page_tree.proofs.NumberLaws.{numbered}
use Rattle.page_tree.proofs.tree.Building.finished.Goals as goal

pub returns-clause-on_page : goal.returns-clause-on_page
returns-clause-on_page c = λ page h. root-built pages_of pages_open (λ p. p ≡ page) c.args.self.now.root c.args.self.now.elements.items h.pages

of_root : (t : Spaces) (root : Option (Bor Element)) → IfSome root (λ e. HaveNumbers t.numbers (spaces_of e.now)) → IfSome root (λ e. AreNumbered (spaces_of e.now))
of_root t None h = tt
of_root t (Some e) h = numbered t.numbers t.next t.apart (spaces_of e.now) h

pub returns-clause-spaces : goal.returns-clause-spaces
returns-clause-spaces c = λ page h.
    let b = c.args.self.now in of_root b.spaces b.root (root-built spaces_of spaces_open (HasNumber b.spaces.numbers) b.root b.elements.items h.spaces)
