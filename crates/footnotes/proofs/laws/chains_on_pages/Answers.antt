use Rattle.footnotes.proofs.ChainLaws.{chains-on}
use Rattle.footnotes.proofs.laws.chains_on_pages.Goals as goal

pub returns : goal.returns
returns c = chains-on
