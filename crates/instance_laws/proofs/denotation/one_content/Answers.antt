use Rattle.instance_out.proofs.SeenLaws.{denotes-one}
use Rattle.instance_laws.proofs.denotation.one_content.Goals as goal

pub returns : goal.returns
returns c = denotes-one
