use Rattle.page_session.proofs.StepLaws.{same_stands}
use Rattle.page_session.proofs.laws.refused_stands_on.Goals as goal

pub returns : goal.returns
returns c = same_stands
