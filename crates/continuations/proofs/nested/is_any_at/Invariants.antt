use Rattle.std.proofs.Common.{◌≡◌, take, false}
use Rattle.std.specs.List.{list_any}
use Rattle.ix_base.specs.LinkRules.{is_at}
use Rattle.id_table.specs.Tables.{all_located}
use Rattle.continuations.proofs.nested.is_any_at.Given as goal

-- none of those before here is at the place
abbrev pub invariant-loop-spot : goal.invariant-loop-spot
invariant-loop-spot l = list_any (is_at l.page l.offset) (all_located (take l.spot-index l.spots)) ≡ false
