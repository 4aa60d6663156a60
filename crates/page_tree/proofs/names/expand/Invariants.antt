use Rattle.std.proofs.Common.{◌≡◌, ◌++◌, drop, map}
use Rattle.std.specs.List.{filter_map}
use Rattle.ix_base.specs.Spaces.{spaces_bound}
use Rattle.ix_base.specs.Trees.{bindings_in}
use Rattle.page_tree.specs.Expansions.{expansion, expansion_of}
use Rattle.page_tree.specs.Spaces.{AreFrom, spaces_expanded}
use Rattle.page_constructs.specs.Model.{attribute_of}
use Rattle.page_tree.proofs.names.expand.Given as goal

abbrev pub invariant-loop-attr : goal.invariant-loop-attr
invariant-loop-attr l = record {
  expansions : map expansion l.expanded.items ++ filter_map (expansion_of (bindings_in l.scope)) (map attribute_of (drop l.attr-index l.attrs))
      ≡ filter_map (expansion_of (bindings_in l.scope)) (map attribute_of l.attrs);
  spaces : AreFrom (spaces_bound l.scope) (spaces_expanded l.expanded.items);
}
