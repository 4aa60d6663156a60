use Rattle.std.proofs.Common.{arith}
use Rattle.std.proofs.lemmas.Grind.{common_steps}
use Rattle.page_tree.specs.Break.{broken_by}
use Rattle.page_tree.specs.Machine.{moved}
use Rattle.page_tree.proofs.tree.Building.take_reference.Goals as goal

pub returns : goal.returns
unfolding broken_by moved
returns c = λ setting. (grind (arith, common_steps), rw c.in-Some.is (c.in_ok-run_char.ensures setting.page))
