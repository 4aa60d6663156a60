use Rattle.scopes.proofs.ColonLemmas.{cut_at_colon}
use Rattle.scopes.proofs.name.split_at_colon.Goals as goal

pub returns : goal.returns
returns c = cut_at_colon c.args.qname.now c.split_once.result c.split_once.ensures.cases
