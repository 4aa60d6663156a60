use Rattle.std.proofs.Common.{◌≡◌, map, take}
use Rattle.proper_content.specs.Notes.{note_seen}
use Rattle.instance_lines.specs.Tables.{values_of}
use Rattle.proper_content.proofs.ids.key_ids.Given as goal

abbrev pub invariant-loop-key : goal.invariant-loop-key
invariant-loop-key l = values_of l.ids.items ≡ map (λ f. f.id) (map note_seen (take l.key-index l.keys))
