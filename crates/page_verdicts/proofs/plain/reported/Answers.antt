use Rattle.std.proofs.Common.{refl}
use Rattle.target_contents.specs.declared.outcome.Outcome.TheVariants.{Broken}
use Rattle.page_verdicts.proofs.plain.reported.Goals as goal

pub returns-clause-reports : goal.returns-clause-reports
returns-clause-reports c = (Broken c.in_ok-report.field-0, c.in_ok-report.ensures, refl)
