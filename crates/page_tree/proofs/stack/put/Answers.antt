use Rattle.std.proofs.Common.{◌≡◌, rules}
use Rattle.ix_base.specs.Elements.{pages_of}
use Rattle.ix_base.specs.Spaces.{spaces_of}
use Rattle.ix_base.specs.Trees.{tree_of}
use Rattle.page_tree.specs.Spaces.{HasNumber}
use Rattle.page_tree.specs.Stacks.{pages_open, spaces_open}
use Rattle.page_tree.proofs.BuiltLaws.{put-built}
use Rattle.page_tree.proofs.StackLaws.{put-snoc}
use Rattle.page_tree.proofs.stack.put.Goals as goal

pub returns-clause-state : goal.returns-clause-state
returns-clause-state c d =
    let t = tree_of c.args.element.now in
    put-snoc c.args.elements.now.items c.pop.new.self.items c.push.new.self.items c.in-Some.parent c.add.new.self t.head t.children _ d
    (search rules) (search rules) c.in_ok-add.ensures.frame

pub returns-clause-pages : goal.returns-clause-pages
returns-clause-pages c page one all =
    put-built pages_of pages_open (λ p. p ≡ page) c.args.elements.now.items c.pop.new.self.items c.push.new.self.items c.in-Some.parent c.add.new.self
    c.args.element c.args.root.now (search rules) (search rules) c.in_ok-add.ensures.pages one all

pub returns-clause-spaces : goal.returns-clause-spaces
returns-clause-spaces c numbers one all =
    put-built spaces_of spaces_open (HasNumber numbers) c.args.elements.now.items c.pop.new.self.items c.push.new.self.items c.in-Some.parent c.add.new.self
    c.args.element c.args.root.now (search rules) (search rules) c.in_ok-add.ensures.spaces one all
