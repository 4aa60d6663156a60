use Rattle.tr4_numbers.proofs.Complete.{one_value}
use Rattle.tr4_numbers.proofs.one_value.Goals as goal

pub returns-clause-number : goal.returns-clause-number
returns-clause-number c = one_value
