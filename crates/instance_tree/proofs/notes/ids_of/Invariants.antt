use Rattle.std.proofs.Common.{◌≡◌, map}
use Rattle.instance_tree.proofs.notes.ids_of.Given as goal

abbrev pub invariant-loop-id : goal.invariant-loop-id
invariant-loop-id l = l.ids ≡ map (λ p. p.1) l.yielded
