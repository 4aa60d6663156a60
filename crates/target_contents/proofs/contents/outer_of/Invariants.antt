use Rattle.std.proofs.Common.{◌≡◌, not, take}
use Rattle.std.specs.List.{filter}
use Rattle.std.specs.Prelude.{is_some}
use Rattle.id_table.specs.Tables.{all_located}
use Rattle.tuples.specs.Model.{owner_in}
use Rattle.target_contents.proofs.contents.outer_of.Given as goal

-- those before here that have no owner
abbrev pub invariant-loop-spot : goal.invariant-loop-spot
invariant-loop-spot l = all_located l.outer.items ≡ filter (λ e. not (is_some (owner_in l.linked.members e))) (all_located (take l.spot-index l.spots))
