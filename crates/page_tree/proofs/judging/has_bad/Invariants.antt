use Rattle.std.proofs.Common.{◌≡◌, drop, map}
use Rattle.std.specs.List.{list_any, filter_map}
use Rattle.page_constructs.specs.Model.{attribute_of}
use Rattle.page_tree.specs.Tags.{is_bad, binding_of}
use Rattle.page_tree.proofs.judging.has_bad.Given as goal

abbrev pub invariant-loop-attr : goal.invariant-loop-attr
invariant-loop-attr l =
    list_any is_bad (filter_map binding_of (map attribute_of (drop l.attr-index l.attrs)))
    ≡ list_any is_bad (filter_map binding_of (map attribute_of l.attrs))
