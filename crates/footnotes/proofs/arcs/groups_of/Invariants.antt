use Rattle.std.proofs.Common.{◌≡◌, ℕ, List, take}
use Rattle.std.specs.List.{flat_map}
use Rattle.footnotes.specs.ArcGroups.{arcs_along, groups_at}
use Rattle.footnotes.proofs.GroupLaws.{relationship_arcs}
use Rattle.footnotes.proofs.arcs.groups_of.Given as goal

-- the arcs of the relationships before here are entered
abbrev pub invariant-loop-relationship : goal.invariant-loop-relationship
invariant-loop-relationship l = (q : List ℕ) → arcs_along (groups_at l.table q) ≡ flat_map (relationship_arcs q) (take l.relationship-index l.relationships)
