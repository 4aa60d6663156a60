use Rattle.std.proofs.Common.{◌≡◌, ◌<◌, length}
use Rattle.std.specs.List.{All}
use Rattle.continuations.specs.Visits.{AreFar}
use Rattle.continuations.specs.Depths.{AreLeaps}
use Rattle.continuations.proofs.walks.fars_of.Given as goal

-- the numbers before here have their far ones
abbrev pub invariant-loop-walk : goal.invariant-loop-walk
invariant-loop-walk l = record {
  fars : length l.fars.items ≡ l.walk;
  depths : length l.depths.items ≡ l.walk;
  small : All (λ d. d < l.walk) l.depths.items;
  far : AreFar l.nexts l.first l.visits l.fars.items;
  leaps : AreLeaps l.visits l.meets l.depths.items l.fars.items;
}
