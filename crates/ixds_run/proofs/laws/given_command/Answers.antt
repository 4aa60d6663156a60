use Rattle.command_words.proofs.GivenLaws.{given}
use Rattle.ixds_run.proofs.laws.given_command.Goals as goal

pub returns : goal.returns
returns c = given
