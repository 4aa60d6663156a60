use Rattle.std.proofs.Common.{sym, ◌∙◌, ap, map, arith}
use Rattle.ix_base.specs.Bindings.{bound, has_at}
use Rattle.ix_base.proofs.ScopeLemmas.{has_at-index, has_at-end}
use Rattle.ix_base.proofs.scope.is_bound_at.Goals as goal

pub returns-then-at-bindings-clause-value : goal.returns-then-at-bindings-clause-value
returns-then-at-bindings-clause-value c =
    sym (ap (λ n. has_at (map bound c.args.bindings.now) n c.args.prefix.now) c.if-at-bindings.true ∙ has_at-end c.args.bindings.now c.args.prefix.now)

pub returns-clause-value : goal.returns-clause-value
returns-clause-value c = c.eq.ensures ∙ sym (has_at-index c.args.bindings.now c.args.at c.args.prefix.now _ (omega (arith, c.if-at-bindings.false)))
