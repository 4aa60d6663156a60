use Rattle.std.proofs.Common.{◌≡◌, drop, map}
use Rattle.std.specs.List.{list_any}
use Rattle.page_tree.specs.Expansions.{expansion, is_unknown}
use Rattle.page_tree.proofs.judging.has_unknown.Given as goal

abbrev pub invariant-loop-one : goal.invariant-loop-one
invariant-loop-one l = list_any is_unknown (map expansion (drop l.one-index l.expanded)) ≡ list_any is_unknown (map expansion l.expanded)
