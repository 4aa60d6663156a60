use Rattle.std.proofs.Common.{◌≡◌, take}
use Rattle.id_table.specs.Tables.{all_located}
use Rattle.footnotes.specs.ArcGroups.{arcs_along}
use Rattle.footnotes.specs.ArcLinks.{end_footnotes}
use Rattle.footnotes.proofs.footnotes.notes_of.Given as goal

-- the footnotes of the groups before here are added
abbrev pub invariant-loop-group : goal.invariant-loop-group
invariant-loop-group l = all_located l.notes.items ≡ end_footnotes (arcs_along (take l.group-index l.groups))
