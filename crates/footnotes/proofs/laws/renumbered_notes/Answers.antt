use Rattle.footnotes.proofs.NotesMoved.{notes-moved}
use Rattle.footnotes.proofs.laws.renumbered_notes.Goals as goal

pub returns : goal.returns
returns c = notes-moved
