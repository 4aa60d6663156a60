use Rattle.std.proofs.Common.{◌≡◌, drop}
use Rattle.ix_base.specs.Alike.{same_each}
use Rattle.ix_base.specs.OwnNames.{same_own}
use Rattle.xbrl_parts.proofs.alike.same_names.Given as goal

abbrev pub invariant-loop-i : goal.invariant-loop-i
invariant-loop-i l = same_each same_own (drop l.i l.a) (drop l.i l.b) ≡ same_each same_own l.a l.b
