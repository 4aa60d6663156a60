use Rattle.std.proofs.Common.{◌≡◌, take, false, not}
use Rattle.std.specs.Prelude.{◌&&◌, bytes_eq}
use Rattle.std.specs.List.{list_any}
use Rattle.ix_base.specs.LinkRules.{target_of}
use Rattle.ix_base.specs.LocatedElements.{is_fact}
use Rattle.id_table.specs.Tables.{all_located}
use Rattle.footnotes.proofs.rules.any_differs_in_target.Given as goal

-- no element before here is a fact of another target
abbrev pub invariant-loop-spot : goal.invariant-loop-spot
invariant-loop-spot l = list_any (λ e. is_fact e && not (bytes_eq l.target (target_of e))) (all_located (take l.spot-index l.spots)) ≡ false
