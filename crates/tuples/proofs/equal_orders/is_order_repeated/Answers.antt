use Rattle.std.proofs.Common.{◌∙◌, ap}
use Rattle.ix_base.specs.LinkRules.{same_order}
use Rattle.tuples.specs.OwnedFacts.{seen}
use Rattle.tuples.proofs.EqualOrders.{repeated-in, repeated-out}
use Rattle.tuples.proofs.equal_orders.is_order_repeated.Goals as goal

pub returns-then-second-facts : goal.returns-then-second-facts
returns-then-second-facts c =
    c.have_same_order.ensures ∙ ap (λ f. same_order (seen c.args.fact.now) (seen f)) c.index-facts-second.is
    ∙ repeated-in c.args.fact.now c.args.facts.now c.earlier_than-second.result c.index-facts-second.result c.if-second-facts.true c.requires c.earlier_than-second.ensures.parts

pub returns-else-second-facts : goal.returns-else-second-facts
returns-else-second-facts c =
    repeated-out c.args.fact.now c.args.facts.now c.earlier_than-second.result c.if-second-facts.false c.requires c.earlier_than-second.ensures.parts
