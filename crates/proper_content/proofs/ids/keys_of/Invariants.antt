use Rattle.std.proofs.Common.{◌≡◌, map, take}
use Rattle.proper_content.specs.Notes.{note_seen}
use Rattle.instance_lines.specs.Tables.{values_of}
use Rattle.proper_content.proofs.ids.keys_of.Given as goal

abbrev pub invariant-loop-note : goal.invariant-loop-note
invariant-loop-note l = map note_seen l.keys.items ≡ values_of (take l.note-index l.notes)
