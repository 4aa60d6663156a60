use Rattle.std.proofs.Common.{◌≡◌, map, take}
use Rattle.command_words.proofs.command.texts_of.Given as goal

abbrev pub invariant-loop-word : goal.invariant-loop-word
invariant-loop-word l = l.texts.items ≡ map (λ s. s.now) (take l.word-index l.words)
