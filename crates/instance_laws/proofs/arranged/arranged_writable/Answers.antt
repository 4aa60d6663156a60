use Rattle.instance_lines.proofs.WritableLaws.{writable-arranged}
use Rattle.instance_laws.proofs.arranged.arranged_writable.Goals as goal

pub returns : goal.returns
returns c = writable-arranged
