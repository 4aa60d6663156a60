use Rattle.std.proofs.Common.{◌≡◌, take, false}
use Rattle.std.specs.List.{list_any}
use Rattle.ix_base.specs.LinkRules.{stands_inside}
use Rattle.id_table.specs.Tables.{all_located}
use Rattle.continuations.proofs.nested.any_among.Given as goal

-- none of those before here stands inside another one
abbrev pub invariant-loop-spot : goal.invariant-loop-spot
invariant-loop-spot l = list_any (stands_inside (all_located l.spots)) (all_located (take l.spot-index l.spots)) ≡ false
