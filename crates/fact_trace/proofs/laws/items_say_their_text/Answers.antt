use Rattle.fact_trace.proofs.NumberLaws.{numbers-say}
use Rattle.fact_trace.proofs.SayingLaws.{items-say, texts-say}
use Rattle.fact_trace.proofs.laws.items_say_their_text.Goals as goal

pub returns-clause-text : goal.returns-clause-text
returns-clause-text c = items-say

pub returns-clause-nonnumeric : goal.returns-clause-nonnumeric
returns-clause-nonnumeric c = texts-say

pub returns-clause-nonfraction : goal.returns-clause-nonfraction
returns-clause-nonfraction c = numbers-say
