use Rattle.std.proofs.Common.{◌≡◌, ◌∷◌, [], drop}
use Rattle.std.specs.List.{list_all}
use Rattle.instance_out.specs.Proper.{is_full}
use Rattle.instance_lines.specs.Tables.{values_of}
use Rattle.proper_texts.proofs.tokens.are_full_notes.Given as goal

abbrev pub invariant-loop-note : goal.invariant-loop-note
invariant-loop-note l = list_all (λ f. list_all is_full (f.role ∷ f.lang ∷ [])) (values_of (drop l.note-index l.notes)) ≡ list_all (λ f. list_all is_full (f.role ∷ f.lang ∷ [])) (values_of l.notes)
