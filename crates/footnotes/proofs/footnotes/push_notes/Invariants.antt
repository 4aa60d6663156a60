use Rattle.std.proofs.Common.{◌≡◌, ◌++◌, take}
use Rattle.id_table.specs.Tables.{all_located}
use Rattle.footnotes.proofs.LinkLaws.{notes_to}
use Rattle.footnotes.proofs.footnotes.push_notes.Given as goal

-- the footnotes among the ends before here are added
abbrev pub invariant-loop-to : goal.invariant-loop-to
invariant-loop-to l = all_located l.notes.items ≡ all_located l.initial.notes.items ++ notes_to l.group (take l.to-index l.to-items)
