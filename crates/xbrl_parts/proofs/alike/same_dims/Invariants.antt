use Rattle.std.proofs.Common.{◌≡◌, drop}
use Rattle.ix_base.specs.Alike.{same_each, same_dim}
use Rattle.xbrl_parts.proofs.alike.same_dims.Given as goal

abbrev pub invariant-loop-i : goal.invariant-loop-i
invariant-loop-i l = same_each same_dim (drop l.i l.a) (drop l.i l.b) ≡ same_each same_dim l.a l.b
