use Rattle.std.proofs.Common.{◌≡◌, ℕ, take}
use Rattle.std.specs.List.{list_any}
use Rattle.ix_base.specs.LinkRules.{is_at}
use Rattle.id_table.specs.Tables.{all_located}
use Rattle.id_table.specs.Slices.{is_key}
use Rattle.continuations.proofs.nested.put_places.Given as goal

-- the places of those before here are put
abbrev pub invariant-loop-spot : goal.invariant-loop-spot
invariant-loop-spot l = (page offset : ℕ) → list_any (is_key page offset) l.places.items ≡ list_any (is_at page offset) (all_located (take l.spot-index l.spots))
