use Rattle.std.proofs.Common.{◌≡◌, map, take}
use Rattle.footnotes.specs.BorrowedArcs.{as_arc}
use Rattle.footnotes.specs.ArcGroups.{arcs_along}
use Rattle.footnotes.proofs.arcs.borrowed_of.Given as goal

-- the arcs of the groups before here are added
abbrev pub invariant-loop-group : goal.invariant-loop-group
invariant-loop-group l = map as_arc l.arcs.items ≡ map (λ x. x.arc) (arcs_along (take l.group-index l.groups))
