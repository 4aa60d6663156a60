use Rattle.std.proofs.Common.{◌≡◌, drop, map}
use Rattle.std.specs.List.{filter_map}
use Rattle.page_tree.specs.Expansions.{expansion, known_name, repeats_by}
use Rattle.page_tree.specs.Tags.{same_name}
use Rattle.page_tree.proofs.TwiceLaws.{expanded-twice}
use Rattle.page_tree.proofs.twice.repeats_expanded.Given as goal

abbrev pub invariant-loop-one : goal.invariant-loop-one
invariant-loop-one l =
    expanded-twice l.seen.keys (filter_map known_name (map expansion (drop l.one-index l.expanded)))
    ≡ repeats_by same_name (filter_map known_name (map expansion l.expanded))
