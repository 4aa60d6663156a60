use Rattle.ix_base.proofs.ReportLemmas.{report-lines, report-rises}
use Rattle.base_laws.proofs.reports.reported_lines.Goals as goal

pub returns-clause-lines : goal.returns-clause-lines
returns-clause-lines c = report-lines

pub returns-clause-rising : goal.returns-clause-rising
returns-clause-rising c = report-rises
