use Rattle.ix_base.proofs.SaidLaws.{some-content}
use Rattle.base_laws.proofs.contents.some_content.Goals as goal

pub returns : goal.returns
returns c = some-content
