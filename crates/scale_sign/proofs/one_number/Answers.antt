use Rattle.scale_sign.proofs.Laws.{one_number}
use Rattle.scale_sign.proofs.one_number.Goals as goal

pub returns : goal.returns
returns c = one_number
