use Rattle.std.proofs.Common.{◌≡◌, map, take}
use Rattle.ix_base.specs.Lines.{breach_of}
use Rattle.ix_base.proofs.breach.to_breaches.Given as goal

abbrev pub invariant-loop-line : goal.invariant-loop-line
invariant-loop-line l = l.breaches ≡ map breach_of (take l.line-index l.lines)
