use Rattle.std.proofs.Common.{◌≤◌, ◌-◌, length, map}
use Rattle.ix_base.specs.Bindings.{bound, place_of}
use Rattle.ix_base.proofs.scope.place_in.Given as goal

-- the place lies between both
abbrev pub invariant-loop-low : goal.invariant-loop-low
invariant-loop-low l =
    (l.low ≤ place_of (map bound l.bindings) l.prefix) × (place_of (map bound l.bindings) l.prefix ≤ l.high) × (l.high ≤ length l.bindings)

abbrev pub decreases-loop-low : goal.decreases-loop-low
decreases-loop-low l = l.high - l.low
