use Rattle.std.proofs.Common.{◌≡◌, ◌∷◌, drop}
use Rattle.ix_base.specs.ContextForm.{by_dimension}
use Rattle.instance_lines.specs.Lists.{strictly}
use Rattle.proper_content.proofs.order.dims_rise.Given as goal

abbrev pub invariant-loop-next : goal.invariant-loop-next
invariant-loop-next l = strictly by_dimension (l.before ∷ drop l.next-index l.rest) ≡ strictly by_dimension l.dims
