use Rattle.footnotes.proofs.NotesSame.{notes-same}
use Rattle.footnotes.proofs.laws.rearranged_notes.Goals as goal

pub returns : goal.returns
returns c = notes-same
