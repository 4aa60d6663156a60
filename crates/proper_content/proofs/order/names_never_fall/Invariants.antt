use Rattle.std.proofs.Common.{◌≡◌, ◌∷◌, drop}
use Rattle.ix_base.specs.OwnNames.{name_cmp}
use Rattle.instance_lines.specs.Lists.{rises}
use Rattle.proper_content.proofs.order.names_never_fall.Given as goal

abbrev pub invariant-loop-next : goal.invariant-loop-next
invariant-loop-next l = rises name_cmp (l.before ∷ drop l.next-index l.rest) ≡ rises name_cmp l.names
