use Rattle.std.proofs.Common.{◌≡◌, ◌++◌, ◌+◌, ◌-◌, ◌<◌, ℕ, Some, length}
use Rattle.std.specs.List.{slice_get}
use Rattle.ix_base.specs.Chain.{chain_of}
use Rattle.ix_base.specs.LocatedElements.{Located}
use Rattle.id_table.specs.Model.{asked}
use Rattle.id_table.specs.Tables.{all_located, AreOnOwnPages}
use Rattle.continuations.proofs.Chaining.{element_at, left}
use Rattle.continuations.proofs.trail.put_chain.Given as goal

-- what was walked and what is left are the chain
abbrev pub invariant-loop-step : goal.invariant-loop-step
invariant-loop-step l = record {
  walked : (e : Located) → slice_get (all_located l.links.spots.items) l.from ≡ Some e
      → all_located l.chain.items ++ left (asked l.index) (l.links.continuations + 1 - l._step) (element_at (all_located l.links.spots.items) l.at)
      ≡ chain_of (asked l.index) (l.links.continuations + 1) e;
  pages : AreOnOwnPages l.chain.items;
  inside : (j : ℕ) → l.at ≡ Some j → j < length l.links.spots.items;
}
