use Rattle.std.proofs.Common.{rules}
use Rattle.std.proofs.lemmas.List.Sorted.{answers_always}
use Rattle.tuples.proofs.RankLaws.{strict}
use Rattle.tuples.specs.FactGroups.{is_earlier}
use Rattle.tuples.proofs.sorting.sort.Goals as goal

pub returns-in-Ok-clause-sorted : goal.returns-in-Ok-clause-sorted
returns-in-Ok-clause-sorted c = c.in-Ok.ensures.sorted is_earlier strict (answers_always _ _ _ (λ f a r g h. search rules))

pub returns-in-Ok-clause-stable : goal.returns-in-Ok-clause-stable
returns-in-Ok-clause-stable c = c.in-Ok.ensures.stable is_earlier strict (answers_always _ _ _ (λ f a r g h. search rules))
