use Rattle.command_words.proofs.GivenLaws.{given_by}
use Rattle.command_words.proofs.command.command_of.Goals as goal

pub returns-clause-given : goal.returns-clause-given
returns-clause-given c = given_by c.picked.result c.args.words.now c.picked.ensures
