use Rattle.std.proofs.Common.{rules, refl}
use Rattle.ix_base.specs.Trees.{tree_of}
use Rattle.page_tree.proofs.Children.{child-push}
use Rattle.page_tree.proofs.PageNumbers.{child-pages, child-spaces}
use Rattle.page_tree.proofs.opened.push_element.Goals as goal

pub returns-clause-nodes : goal.returns-clause-nodes
returns-clause-nodes c = child-push c.args.children.now.items c.push.new.self.items c.args.element (tree_of c.args.element.now) refl (search rules)

pub returns-clause-pages : goal.returns-clause-pages
returns-clause-pages c = child-pages c.args.children.now.items c.push.new.self.items c.args.element (search rules)

pub returns-clause-spaces : goal.returns-clause-spaces
returns-clause-spaces c = child-spaces c.args.children.now.items c.push.new.self.items c.args.element (search rules)
