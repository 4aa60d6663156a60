use Rattle.std.proofs.Common.{◌≡◌, ◌++◌, ℕ, List, take}
use Rattle.id_table.specs.Tables.{all_located}
use Rattle.footnotes.specs.ArcGroups.{arcs_along, arcs_from, groups_at}
use Rattle.footnotes.specs.NamedEnds.{seen}
use Rattle.footnotes.proofs.arcs.enter_all.Given as goal

-- the arcs from the facts before here are entered
abbrev pub invariant-loop-source : goal.invariant-loop-source
invariant-loop-source l = (q : List ℕ) → arcs_along (groups_at l.table q) ≡ arcs_along (groups_at l.initial.table q)
    ++ arcs_from (seen l.relationship) (all_located l.relationship.ends.spots.now) q (all_located (take l.source-index l.source-items))
