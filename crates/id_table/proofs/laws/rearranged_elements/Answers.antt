use Rattle.id_table.proofs.Rearranged.{asks-same}
use Rattle.id_table.proofs.laws.rearranged_elements.Goals as goal

pub returns : goal.returns
returns c = asks-same
