use Rattle.instance_laws.proofs.TwiceLaws.{arranged-arranged}
use Rattle.instance_laws.proofs.arranged.arranged_twice.Goals as goal

pub returns : goal.returns
returns c = arranged-arranged
