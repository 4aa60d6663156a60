use Rattle.std.proofs.Common.{◌≡◌, drop, map, bytes_eq}
use Rattle.std.specs.List.{list_any}
use Rattle.page_tree.proofs.twice.is_among.Given as goal

abbrev pub invariant-loop-attr : goal.invariant-loop-attr
invariant-loop-attr l =
    list_any (bytes_eq l.name) (map (λ a. a.name.name.now) (drop l.attr-index l.attrs)) ≡ list_any (bytes_eq l.name) (map (λ a. a.name.name.now) l.attrs)
