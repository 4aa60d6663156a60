use Rattle.std.proofs.Common.{◌≡◌, ℕ, take}
use Rattle.std.specs.List.{filter}
use Rattle.tuples.specs.FactGroups.{group_at}
use Rattle.tuples.specs.OwnedFacts.{is_owned_at}
use Rattle.tuples.proofs.groups.entered.Given as goal

-- the facts before here are entered
abbrev pub invariant-loop-fact : goal.invariant-loop-fact
invariant-loop-fact l = (page offset : ℕ) → group_at l.groups page offset ≡ filter (is_owned_at page offset) (take l.fact-index l.facts)
