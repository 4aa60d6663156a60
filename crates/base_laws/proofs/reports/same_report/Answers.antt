use Rattle.ix_base.proofs.ReportLemmas.{report-same}
use Rattle.base_laws.proofs.reports.same_report.Goals as goal

pub returns : goal.returns
returns c = report-same
