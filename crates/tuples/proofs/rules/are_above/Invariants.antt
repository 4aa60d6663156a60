use Rattle.std.proofs.Common.{◌≡◌, ◌-◌, option_map}
use Rattle.id_table.specs.Model.{asked}
use Rattle.tuples.specs.OwnedFacts.{owner_seen}
use Rattle.tuples.specs.Owners.{are_above}
use Rattle.tuples.proofs.rules.are_above.Given as goal

-- so many more have to stand above as are left
abbrev pub invariant-loop-i : goal.invariant-loop-i
invariant-loop-i l = are_above (asked l.index) (l.most - l.i) (option_map owner_seen l.at) ≡ are_above (asked l.index) l.most (option_map owner_seen l.first)
