-- The tree of markup that is one element, in a scope (Namespaces in XML 1.0, sections 3 to 6).
use Rattle.std.specs.Prelude.{ℕ, List, []}
use Rattle.ix_base.specs.Elements.{tree_at}
use Rattle.ix_base.specs.Trees.{Bound, Nodes, none, chars, elem, Tree}
use Rattle.ix_base.specs.WrittenMarkup.{Markup}
use Rattle.page_tree.specs.FineMarkup.{nodes_at}

-- the first element of some nodes; without one, an element without a name
abbrev pub tree_of : Nodes → Tree
tree_of none = tree_at (record { offset = 0; name = record { ns = []; local = [] }; attrs = []; scope = [] }) none
tree_of (chars text rest) = tree_of rest
tree_of (elem head children rest) = tree_at head children

-- the tree of markup that begins at this offset
abbrev pub tree_in : Markup → ℕ → List Bound → Tree
tree_in m at scope = tree_of (nodes_at m at scope)
