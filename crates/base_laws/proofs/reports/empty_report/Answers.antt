use Rattle.ix_base.proofs.ReportLemmas.{report-is_nil}
use Rattle.base_laws.proofs.reports.empty_report.Goals as goal

pub returns : goal.returns
returns c = report-is_nil
