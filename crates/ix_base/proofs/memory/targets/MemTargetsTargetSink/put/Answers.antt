use Rattle.std.proofs.Common.{◌≡◌, ap, sym, Some, [], arith, rules}
use Rattle.std.proofs.lemmas.Grind.{common_steps}
use Rattle.ix_base.specs.MemTargets.{put_takes}
use Rattle.ix_base.proofs.SlotLemmas.{grown_none}
use Rattle.ix_base.proofs.memory.targets.MemTargetsTargetSink.put.Goals as goal

pub returns-then-enter-clause-err : goal.returns-then-enter-clause-err
returns-then-enter-clause-err c = (0, ap Some (sym (grown_none _)))

pub returns-then-enter-clause-exact : goal.returns-then-enter-clause-exact
returns-then-enter-clause-exact c =
    let none : put_takes c.args.self.now c.args.piece.now ≡ [] = search rules in
    record {
      fails = search rules;
      takes = rw none (sym (grown_none _));
      calls = search rules;
      limits = search rules;
      left = search rules;
      count = search rules;
    }

pub returns-clause-exact : goal.returns-clause-exact
returns-clause-exact c =
    record {
      fails = search rules;
      takes = grind (arith, common_steps);
      calls = search rules;
      limits = search rules;
      left = grind (arith, common_steps);
      count = grind (arith, common_steps);
    }
