use Rattle.std.proofs.Common.{◌≡◌, take, false}
use Rattle.std.specs.List.{list_any}
use Rattle.id_table.specs.Tables.{all_located}
use Rattle.continuations.specs.Nesting.{is_around}
use Rattle.continuations.proofs.nested.any_within.Given as goal

-- none of those before here stands inside another one
abbrev pub invariant-loop-spot : goal.invariant-loop-spot
invariant-loop-spot l = list_any (is_around l.places.items) (all_located (take l.spot-index l.spots)) ≡ false
