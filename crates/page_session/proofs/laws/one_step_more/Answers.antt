use Rattle.page_session.proofs.StepLaws.{one_more}
use Rattle.page_session.proofs.laws.one_step_more.Goals as goal

pub returns : goal.returns
returns c = one_more
