use Rattle.std.proofs.Common.{◌∙◌}
use Rattle.page_tree.proofs.StackLaws.{outside-is}
use Rattle.page_tree.proofs.tree.Building.is_outside.Goals as goal

pub returns : goal.returns
returns c =
    let os = c.args.self.now.elements in
    c.is_empty.ensures ∙ outside-is os.items os.len os.ok.0
