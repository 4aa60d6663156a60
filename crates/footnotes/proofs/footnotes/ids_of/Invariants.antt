use Rattle.std.proofs.Common.{◌≡◌, map, take}
use Rattle.id_table.specs.Tables.{all_located}
use Rattle.footnotes.specs.FootnoteLinks.{label}
use Rattle.footnotes.specs.ArcLinks.{texts_of}
use Rattle.footnotes.proofs.footnotes.ids_of.Given as goal

-- the ids of the elements before here are added
abbrev pub invariant-loop-spot : goal.invariant-loop-spot
invariant-loop-spot l = texts_of l.ids.items ≡ map label (all_located (take l.spot-index l.spots))
