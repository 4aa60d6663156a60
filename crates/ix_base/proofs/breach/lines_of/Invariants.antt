use Rattle.std.proofs.Common.{◌≡◌, map, take}
use Rattle.ix_base.specs.Breaches.{named, of_class}
use Rattle.ix_base.specs.Lines.{breach_of}
use Rattle.ix_base.proofs.breach.lines_of.Given as goal

abbrev pub invariant-loop-f : goal.invariant-loop-f
invariant-loop-f l = map breach_of l.lines.items ≡ of_class (map (named l.names) (take l.f-index l.found)) l.class
