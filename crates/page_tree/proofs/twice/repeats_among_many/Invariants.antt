use Rattle.std.proofs.Common.{◌≡◌, drop, map, bytes_eq}
use Rattle.page_tree.specs.Expansions.{repeats_by}
use Rattle.page_tree.proofs.TwiceLaws.{name-twice}
use Rattle.page_tree.proofs.twice.repeats_among_many.Given as goal

abbrev pub invariant-loop-attr : goal.invariant-loop-attr
invariant-loop-attr l =
    name-twice l.seen.keys (map (λ a. a.name.name.now) (drop l.attr-index l.attrs)) ≡ repeats_by bytes_eq (map (λ a. a.name.name.now) l.attrs)
