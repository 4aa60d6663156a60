use Rattle.std.proofs.Common.{◌≡◌, map, take}
use Rattle.footnotes.specs.BorrowedArcs.{as_arc}
use Rattle.footnotes.proofs.arcs.copies_of.Given as goal

-- the arcs before here are copied
abbrev pub invariant-loop-one : goal.invariant-loop-one
invariant-loop-one l = l.arcs ≡ map as_arc (take l.one-index l.borrowed)
