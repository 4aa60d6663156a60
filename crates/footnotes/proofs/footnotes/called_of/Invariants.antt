use Rattle.std.proofs.Common.{◌≡◌, ℕ, List, None, option_map, take}
use Rattle.ix_base.specs.LocatedElements.{located}
use Rattle.id_table.specs.Tables.{all_located}
use Rattle.footnotes.specs.ArcLinks.{kept_at, last_called}
use Rattle.footnotes.proofs.footnotes.called_of.Given as goal

-- at each id stands the last of the elements before here that has it
abbrev pub invariant-loop-spot : goal.invariant-loop-spot
invariant-loop-spot l = (id : List ℕ) → option_map (λ s. located s.now) (kept_at l.called id) ≡ last_called id (all_located (take l.spot-index l.spots)) None
