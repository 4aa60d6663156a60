use Rattle.tuples.proofs.RisingLaws.{members-rise}
use Rattle.tuples.proofs.laws.members_rise.Goals as goal

pub returns : goal.returns
returns c = members-rise
