use Rattle.target_contents.proofs.FactsLaws.{tuple-before}
use Rattle.target_contents.proofs.facts_in.tuple_fact.Goals as goal

pub returns : goal.returns
returns c =
    tuple-before c.in_ok-tuple.tuple _ _ _ _ c.in_ok-tuple.ensures.name c.in_ok-tuple.ensures.id c.in_ok-tuple.ensures.nil c.in_ok-tuple.ensures.members
