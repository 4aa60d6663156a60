use Rattle.std.proofs.Common.{rules, All, subst}
use Rattle.std.proofs.lemmas.List.{take_all}
use Rattle.std.proofs.lemmas.List.Elements.{All-more}
use Rattle.set_rows.specs.AsDue.{IsWritten}
use Rattle.set_rows.proofs.sets.outcome.targets_difference.Goals as goal

pub loop-target-preserved : goal.loop-target-preserved
loop-target-preserved c =
    All-more (IsWritten c.args.sink.now) c.args.targets.now c.loop-target.target-index c.target-item.result
    c.loop-target-test.true c.loop-target.invariant (search rules)

pub returns : goal.returns
returns c = λ _. subst (All (IsWritten c.args.sink.now))
    (take_all c.loop-target.target-index c.args.targets.now (search rules)) c.loop-target.invariant
