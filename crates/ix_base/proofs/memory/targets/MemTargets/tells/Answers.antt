use Rattle.std.proofs.Common.{arith}
use Rattle.std.proofs.lemmas.Grind.{common_steps}
use Rattle.ix_base.proofs.SlotLemmas.{open_at}
use Rattle.ix_base.proofs.memory.targets.MemTargets.tells.Goals as goal

pub returns-clause-shelf : goal.returns-clause-shelf
returns-clause-shelf c =
    let shelf = c.args.self.now.shelf in
    record {
      count = grind (arith, common_steps);
      last = open_at shelf.held.items shelf.earlier.items shelf.any shelf.last shelf.none;
      room = grind (arith, common_steps);
    }
