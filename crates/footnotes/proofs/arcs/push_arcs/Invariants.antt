use Rattle.std.proofs.Common.{◌≡◌, ◌++◌, map, take}
use Rattle.id_table.specs.Tables.{all_located}
use Rattle.footnotes.specs.BorrowedArcs.{as_arc}
use Rattle.footnotes.specs.ArcGroups.{arc_to}
use Rattle.footnotes.proofs.arcs.push_arcs.Given as goal

-- the arcs to the ends before here are added
abbrev pub invariant-loop-to : goal.invariant-loop-to
invariant-loop-to l = map as_arc l.arcs.items
    ≡ map as_arc l.initial.arcs.items ++ map (λ x. x.arc) (map (arc_to l.group) (all_located (take l.to-index l.to-items)))
