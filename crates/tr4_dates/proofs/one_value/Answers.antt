use Rattle.tr4_dates.proofs.FormatLaws.{one_value as one_value_law}
use Rattle.tr4_dates.proofs.one_value.Goals as goal

pub returns : goal.returns
returns c = one_value_law
