use Rattle.std.proofs.Common.{◌≡◌, ◌++◌, map, take}
use Rattle.target_contents.specs.Visits.{values_of}
use Rattle.target_contents.proofs.notes.push_footnote_roles.Given as goal

-- the roles of the footnotes before here are added
abbrev pub invariant-loop-note : goal.invariant-loop-note
invariant-loop-note l = values_of l.uris.items ≡ values_of l.initial.uris.items ++ map (λ n. n.role) (take l.note-index l.notes)
