use Rattle.facts.proofs.FormatLaws.{one_transformed}
use Rattle.facts.proofs.laws.one_text.Goals as goal

pub returns : goal.returns
returns c = one_transformed
