use Rattle.std.proofs.Common.{◌≡◌, ◌++◌, map, take}
use Rattle.target_contents.specs.Visits.{values_of}
use Rattle.target_contents.proofs.notes.push_arcroles.Given as goal

-- the arcroles of the arcs before here are added
abbrev pub invariant-loop-arc : goal.invariant-loop-arc
invariant-loop-arc l = values_of l.uris.items ≡ values_of l.initial.uris.items ++ map (λ a. a.arcrole) (take l.arc-index l.arcs)
