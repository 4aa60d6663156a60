use Rattle.std.proofs.Common.{◌≡◌, ◌++◌, map, take}
use Rattle.instance_lines.specs.Tables.{values_of}
use Rattle.proper_content.proofs.roles.used_roles.Given as goal

abbrev pub invariant-loop-note : goal.invariant-loop-note
invariant-loop-note l = values_of l.roles.items ≡ map (λ k. k.role) l.links ++ map (λ f. f.role) (values_of (take l.note-index l.notes))
