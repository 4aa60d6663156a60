use Rattle.facts.proofs.FormatLaws.{one_value}
use Rattle.facts.proofs.laws.one_number.Goals as goal

pub returns : goal.returns
returns c = one_value
