use Rattle.proper_content.proofs.ListLaws.{sorted_values}
use Rattle.proper_content.proofs.among.Among.of.Goals as goal

pub returns : goal.returns
returns c = sorted_values c.args.texts.items c.sort_unstable.new.self.items c.sort_unstable.ensures.permutation c.sort_unstable.ensures.sorted
