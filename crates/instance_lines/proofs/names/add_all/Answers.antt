use Rattle.std.proofs.Common.{refl, ◌∷◌, ◌++◌, ◌∙◌}
use Rattle.instance_lines.proofs.Gathered.{gained}
use Rattle.instance_lines.proofs.Steps.{step, none_left}
use Rattle.instance_lines.specs.Tables.{values_of}
use Rattle.instance_lines.proofs.names.add_all.Goals as goal

pub loop-name-preserved : goal.loop-name-preserved
loop-name-preserved c more =
    let x = c.name-item.result in
    step (λ ys m. ys ++ m) (λ m. x ∷ m) c.args.more.now c.loop-name.name-index x _ _ _ more
    c.loop-name-test.true c.name-item.is (λ ys. refl) (gained _ _ _ c.in_ok-push.ensures.items) (c.loop-name.invariant more)

pub returns : goal.returns
returns c more =
    none_left (λ l. values_of c.loop-name.names.items ++ (l ++ more)) c.args.more.now c.loop-name.name-index
    c.loop-name-test.false
    ∙ c.loop-name.invariant more
