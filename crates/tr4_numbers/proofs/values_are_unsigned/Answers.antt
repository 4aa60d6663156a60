use Rattle.tr4_numbers.proofs.Values.{value-unsigned, value-text}
use Rattle.tr4_numbers.proofs.values_are_unsigned.Goals as goal

pub returns-clause-decimal : goal.returns-clause-decimal
returns-clause-decimal c = value-unsigned

pub returns-clause-utf8 : goal.returns-clause-utf8
returns-clause-utf8 c = value-text
