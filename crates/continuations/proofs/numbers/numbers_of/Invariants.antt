use Rattle.id_table.specs.Tables.{all_located, chain_spots}
use Rattle.continuations.specs.Numbers.{AreNumbers}
use Rattle.continuations.proofs.numbers.numbers_of.Given as goal

-- the elements before here are entered
abbrev pub invariant-loop-number : goal.invariant-loop-number
invariant-loop-number l = AreNumbers l.numbers (all_located (chain_spots l.elements)) l.number
