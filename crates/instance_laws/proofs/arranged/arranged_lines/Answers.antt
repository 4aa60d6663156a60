use Rattle.instance_lines.proofs.ArrangedLaws.{lines-arranged}
use Rattle.instance_laws.proofs.arranged.arranged_lines.Goals as goal

pub returns : goal.returns
returns c = lines-arranged
