use Rattle.ix_base.specs.Elements.{placed}
use Rattle.ix_grammar.proofs.FormLaws.{order_ill, un-ill}
use Rattle.ix_grammar.proofs.attributes.breaks_order.Goals as goal

pub returns-else-of : goal.returns-else-of
returns-else-of c = un-ill c.args.of.now.is_ill _ _ _ c.if-of.false c.args.of.now.ill (order_ill c.args.of.now.kind (placed c.args.of.now.spot.now).tree)
