use Rattle.std.proofs.Common.{◌≡◌, drop, map}
use Rattle.std.specs.List.{filter_map}
use Rattle.page_constructs.specs.Model.{attribute_of}
use Rattle.page_tree.specs.Orders.{bound_under, entered}
use Rattle.page_tree.specs.Tags.{binding_of}
use Rattle.page_tree.proofs.scope.collect.Given as goal

abbrev pub invariant-loop-attr : goal.invariant-loop-attr
invariant-loop-attr l =
    bound_under (map entered l.declared.entries) (filter_map binding_of (map attribute_of (drop l.attr-index l.attrs)))
    ≡ bound_under (map entered l.initial.declared.entries) (filter_map binding_of (map attribute_of l.attrs))
