use Rattle.xbrl_parts.proofs.AlikeLaws.{context_same, context_other}
use Rattle.xbrl_parts.proofs.alike.same_context.Goals as goal

pub returns-clause-same : goal.returns-clause-same
returns-clause-same c = λ h. context_same c.args.a.now c.args.b.now c.is_same_context.result c.is_same_context.ensures h

pub returns-clause-other : goal.returns-clause-other
returns-clause-other c = λ h. context_other c.args.a.now c.args.b.now c.is_same_context.result c.is_same_context.ensures h
