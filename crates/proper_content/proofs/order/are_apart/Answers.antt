use Rattle.std.proofs.Common.{◌≡◌, ◌∙◌, rules}
use Rattle.ix_base.specs.SortedLists.{text_cmp}
use Rattle.instance_lines.specs.Lists.{strictly}
use Rattle.instance_lines.specs.Tables.{values_of}
use Rattle.proper_content.proofs.ListLaws.{apart_sorted}
use Rattle.proper_content.proofs.order.are_apart.Goals as goal

pub returns : goal.returns
returns c =
    let up : c.rise.result ≡ strictly text_cmp (values_of c.sort_unstable.new.self.items) = search rules in
    up ∙ apart_sorted c.args.texts.items c.sort_unstable.new.self.items c.sort_unstable.ensures.permutation c.sort_unstable.ensures.sorted
