use Rattle.page_session.proofs.StepLaws.{differ}
use Rattle.page_session.proofs.laws.names_differ.Goals as goal

pub returns : goal.returns
returns c = differ
