use Rattle.std.proofs.Common.{refl}
use Rattle.ix_grammar.proofs.Staging.{on_refusal, stays}
use Rattle.ix_grammar.proofs.rules.check_some.Goals as goal

pub returns-in_err-is_broken-clause-err : goal.returns-in_err-is_broken-clause-err
returns-in_err-is_broken-clause-err c = on_refusal _ (stays _ _ c.loop-rule.breaches _ _ c.loop-rule.invariant refl)

pub returns-in_err-add_if-clause-err : goal.returns-in_err-add_if-clause-err
returns-in_err-add_if-clause-err c = on_refusal _ (stays _ _ c.loop-rule.breaches _ _ c.loop-rule.invariant c.in_err-add_if.ensures.err)
