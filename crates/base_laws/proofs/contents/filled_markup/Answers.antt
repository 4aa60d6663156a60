use Rattle.ix_base.proofs.FilledLemmas.{written-filled}
use Rattle.base_laws.proofs.contents.filled_markup.Goals as goal

pub returns : goal.returns
returns c = written-filled
