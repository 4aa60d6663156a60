use Rattle.std.proofs.Common.{◌∙◌, ap, map}
use Rattle.instance_lines.specs.Writable.{IsWritable}
use Rattle.instance_lines.proofs.Steps.{all_moved}
use Rattle.target_contents.specs.declared.outcome.Target.{Target}
use Rattle.ixds_run.specs.DueOutcomes.{instance_lines}
use Rattle.ixds_run.proofs.DueLaws.{one_moved}
use Rattle.ixds_run.proofs.due.prepared.Goals as goal

pub due_target-requires : goal.due_target-requires
due_target-requires c =
    one_moved (λ (t : Target). IsWritable t.content) _ _ c.next.new.self c.args.targets _ c.in-Some.target
    (c.into_iter-target-iterator.ensures.into_iter_gives.0 ∙ c.into_vec-target-items.ensures)
    c.loop-target.yielded_by c.in-Some.is c.next.ensures.steps c.requires

pub returns : goal.returns
returns c =
    c.loop-target.invariant
    ∙ ap (map instance_lines)
    (all_moved _ _ c.next.new.self c.args.targets _ (c.into_iter-target-iterator.ensures.into_iter_gives.0 ∙ c.into_vec-target-items.ensures)
    c.loop-target.yielded_by c.in-None.is c.next.ensures.steps)
