use Rattle.std.proofs.Common.{rules, string_bytes}
use Rattle.page_tree.proofs.StackLaws.{flushed-snoc}
use Rattle.page_tree.proofs.stack.flush_innermost.Goals as goal

pub returns-clause-frames : goal.returns-clause-frames
returns-clause-frames c =
    flushed-snoc c.args.elements.now.items c.pop.new.self.items c.push.new.self.items c.in-Some.parent c.flush.new.self (string_bytes c.args.text.now)
    (search rules) (search rules) c.in_ok-flush.ensures.frame
