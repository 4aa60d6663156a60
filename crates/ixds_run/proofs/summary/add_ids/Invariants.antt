use Rattle.std.proofs.Common.{◌≡◌, ◌++◌, map, take}
use Rattle.ixds_run.proofs.summary.add_ids.Given as goal

abbrev pub invariant-loop-note : goal.invariant-loop-note
invariant-loop-note l = map (λ s. s.now) l.ids.items ≡ map (λ s. s.now) l.initial.ids.items ++ map (λ n. n.id) (take l.note-index l.notes)
