use Rattle.instance_out.proofs.TheoremLaws.{proper-is_denoted}
use Rattle.instance_laws.proofs.denotation.canonical_markup.Goals as goal

pub returns : goal.returns
returns c = proper-is_denoted
