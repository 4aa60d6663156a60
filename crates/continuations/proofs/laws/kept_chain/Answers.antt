use Rattle.continuations.proofs.HeadLaws.{chain_at-start}
use Rattle.continuations.proofs.laws.kept_chain.Goals as goal

pub returns : goal.returns
returns c = chain_at-start
