use Rattle.std.proofs.Common.{length}
use Rattle.command_words.proofs.names.+has_repeat.Given as goal

abbrev pub decreases-has_repeat : goal.decreases-has_repeat
decreases-has_repeat l = length l.names.now
