use Rattle.ixds_run.proofs.ReadBackLaws.{made_back}
use Rattle.ixds_run.proofs.laws.said_read_back.Goals as goal

pub returns : goal.returns
returns c = made_back c.sound_tree.ensures.tree c.read_back.ensures.read
