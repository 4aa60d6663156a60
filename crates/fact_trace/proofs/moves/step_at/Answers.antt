use Rattle.fact_trace.proofs.MoveLaws.{found-construct, is-step, whole-unbroken}
use Rattle.fact_trace.proofs.moves.step_at.Goals as goal

pub construct_at-requires-clause-unbroken : goal.construct_at-requires-clause-unbroken
construct_at-requires-clause-unbroken c = whole-unbroken c.args.bytes.now c.requires.whole

pub move_of-requires : goal.move_of-requires
move_of-requires c = (found-construct c.args.bytes.now c.args.from c.in_ok-construct.construct c.requires.whole c.in_ok-construct.ensures).0

pub returns : goal.returns
returns c = is-step c.args.bytes.now c.args.from c.in_ok-construct.construct c.move_of.result c.requires.whole c.in_ok-construct.ensures c.move_of.ensures
