use Rattle.std.proofs.Common.{◌≡◌, map, drop}
use Rattle.ix_base.specs.Breaches.{first_any, first_class, named, of_class}
use Rattle.ix_base.proofs.breach.first_lines.Given as goal

-- no class before this one has any
abbrev pub invariant-loop-class : goal.invariant-loop-class
invariant-loop-class l =
    first_class (map (named l.names) l.found) ≡ first_any (map (of_class (map (named l.names) l.found)) (drop l.class-index l.class-items))
