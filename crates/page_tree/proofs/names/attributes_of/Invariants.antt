use Rattle.std.proofs.Common.{◌≡◌, ◌++◌, drop, map}
use Rattle.ix_base.specs.Spaces.{space_of}
use Rattle.ix_base.specs.Trees.{valued}
use Rattle.page_tree.specs.Expansions.{expansion}
use Rattle.page_tree.specs.Spaces.{spaces_expanded}
use Rattle.page_tree.proofs.names.attributes_of.Given as goal

abbrev pub invariant-loop-one : goal.invariant-loop-one
invariant-loop-one l = record {
  values : map valued l.attrs.items ++ map (λ e. e.valued) (map expansion (drop l.one-index l.expanded)) ≡ map (λ e. e.valued) (map expansion l.expanded);
  spaces : map (λ a. space_of a.name.now) l.attrs.items ++ spaces_expanded (drop l.one-index l.expanded) ≡ spaces_expanded l.expanded;
}
