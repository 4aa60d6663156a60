use Rattle.std.proofs.Common.{rules}
use Rattle.std.proofs.lemmas.List.Sorted.{IsPartitionPoint-from_clause}
use Rattle.tuples.specs.FactGroups.{is_earlier}
use Rattle.tuples.proofs.RankLaws.{parted}
use Rattle.tuples.proofs.equal_orders.earlier_than.Goals as goal

pub returns-clause-parts : goal.returns-clause-parts
returns-clause-parts c =
    IsPartitionPoint-from_clause (λ f. is_earlier f c.args.fact.now) c.args.facts.now c.partition_point.result c.partition_point.ensures.partitioned
    (parted c.args.fact.now c.args.facts.now c.requires) (λ a r f h. search rules)
