use Rattle.ix_base.proofs.SaidLaws.{same-content}
use Rattle.base_laws.proofs.contents.same_content.Goals as goal

pub returns : goal.returns
returns c = same-content
