use Rattle.ixds_run.proofs.ReportLaws.{line_of_one}
use Rattle.ixds_run.proofs.laws.one_line.Goals as goal

pub returns : goal.returns
returns c = line_of_one
