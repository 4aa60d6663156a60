use Rattle.std.proofs.Common.{◌∙◌, ap, map}
use Rattle.page_verdicts.specs.Texts.{summary_of}
use Rattle.ixds_run.specs.DueTables.{ready_lines}
use Rattle.ixds_run.specs.declared.status.Status.TheVariants.{Done}
use Rattle.ixds_run.proofs.DueLaws.{ready_is}
use Rattle.ixds_run.proofs.due.due_of_targets.Goals as goal

pub returns-clause-due : goal.returns-clause-due
returns-clause-due c dir = λ i. record {
  status = Done;
  text = c.in_ok-text.ensures c.args.targets (c.in_ok-told.ensures ∙ ap summary_of c.as_slice.ensures)
      (ap (map ready_lines) c.as_slice-2.ensures.value ∙ c.in_ok-ready.ensures) i;
  targets = ready_is c.in_ok-ready.ready.items c.args.targets c.in_ok-ready.ensures dir i;
}
