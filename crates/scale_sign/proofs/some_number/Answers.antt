use Rattle.scale_sign.proofs.Laws.{some_number}
use Rattle.scale_sign.proofs.some_number.Goals as goal

pub returns : goal.returns
returns c = some_number
