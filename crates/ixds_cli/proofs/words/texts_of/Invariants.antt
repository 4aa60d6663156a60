use Rattle.std.proofs.Common.{◌≡◌, map, string_bytes}
use Rattle.ixds_cli.proofs.words.texts_of.Given as goal

-- the texts of what came
abbrev pub invariant-loop-word : goal.invariant-loop-word
invariant-loop-word l = l.words.items ≡ map string_bytes l.yielded
