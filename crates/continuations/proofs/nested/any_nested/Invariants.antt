use Rattle.std.proofs.Common.{◌≡◌, ◌<◌, ◌≤◌, ℕ, Some, false}
use Rattle.std.specs.List.{slice_get}
use Rattle.ix_base.specs.Chain.{chain}
use Rattle.ix_base.specs.LocatedElements.{Located}
use Rattle.id_table.specs.Model.{asked}
use Rattle.id_table.specs.Tables.{all_located}
use Rattle.continuations.specs.Nesting.{is_nested}
use Rattle.continuations.proofs.nested.any_nested.Given as goal

-- no chain before here has an element inside another one
abbrev pub invariant-loop-number : goal.invariant-loop-number
invariant-loop-number l = (k : ℕ) (e : Located) → l.links.continuations ≤ k → k < l.number → slice_get (all_located l.links.spots.items) k ≡ Some e
    → is_nested (chain (asked l.index) e) ≡ false
