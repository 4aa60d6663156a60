use Rattle.std.proofs.Common.{◌≡◌, map, bytes_eq, length}
use Rattle.page_tree.specs.Expansions.{repeats_by}
use Rattle.page_tree.proofs.twice.repeats_among_few.Given as goal

abbrev pub invariant-loop-left : goal.invariant-loop-left
invariant-loop-left l = repeats_by bytes_eq (map (λ a. a.name.name.now) l.left) ≡ repeats_by bytes_eq (map (λ a. a.name.name.now) l.attrs)

abbrev pub decreases-loop-left : goal.decreases-loop-left
decreases-loop-left l = length l.left
