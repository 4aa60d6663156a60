use Rattle.std.proofs.Common.{◌∙◌, ap, sym}
use Rattle.ixds_run.specs.DueOutcomes.{due_of}
use Rattle.ixds_run.proofs.due.ready.Goals as goal

pub returns-in-Printed-clause-due : goal.returns-in-Printed-clause-due
returns-in-Printed-clause-due c = λ dir. c.due_of_text.ensures.due dir c.args.number ∙ ap (due_of dir c.args.number) (sym c.in-Printed.is)
