-- Every element of a tree with what is above it, in document order, and the element that a spot is.
use Rattle.std.specs.Prelude.{ℕ, List, [], ◌∷◌, ◌++◌, flat_map, Option, Some, None}
use Rattle.std.specs.Borrow.{Bor}
use Rattle.ix_base.specs.declared.place.Place.{Place}
use Rattle.ix_base.specs.declared.tree.Element.{Element}
use Rattle.ix_base.specs.declared.tree.Node.{Node}
use Rattle.ix_base.specs.declared.tree.Node.TheOpen.{Node-F, Element-F}
use Rattle.ix_base.specs.declared.tree.Node.TheFolds.{fold-Node, fold-Element}
use Rattle.ix_base.specs.declared.tree.Spot.{Spot, out-Spot}
use Rattle.ix_base.specs.declared.tree.Spot.TheOpen.{Spot-F}
use Rattle.ix_base.specs.declared.tree.Spot.TheFolds.{fold-Spot}
use Rattle.ix_base.specs.Trees.{Head, Nodes, none, chars, elem, Tree, tree_of}

-- an element and its ancestors, the nearest first
pub record Placed : Type 0 where
  pub tree : Tree
  pub above : List Tree

abbrev pub placed_at : Tree → List Tree → Placed
placed_at t above = record { tree = t; above = above }

-- an element and its ancestors as one list, itself first
abbrev pub path_of : Placed → List Tree
path_of p = p.tree ∷ p.above

abbrev pub tree_at : Head → Nodes → Tree
tree_at head children = record { head = head; children = children }

-- the elements among some nodes, and below them, that stand below these elements
abbrev pub below : List Tree → Nodes → List Placed
below above none = []
below above (chars text rest) = below above rest
below above (elem head children rest) =
    placed_at (tree_at head children) above ∷ (below (tree_at head children ∷ above) children ++ below above rest)

-- the elements of a tree that stands below these elements, itself first
abbrev pub elements_from : List Tree → Tree → List Placed
elements_from above t = placed_at t above ∷ below (t ∷ above) t.children

-- the elements of a page, from its root on
abbrev pub elements_of : Tree → List Placed
elements_of root = elements_from [] root

abbrev pub path_or : Option (Bor Placed) → List Tree
path_or None = []
path_or (Some p) = path_of p.now

abbrev pub spot_step : Spot-F Placed → Placed
spot_step s = placed_at (tree_of s.element.now) (path_or s.up)

-- the element that a spot is
abbrev pub placed : Spot → Placed
placed = fold-Spot Placed spot_step

-- what is above an element with this spot above it
abbrev pub path_above : Option (Bor Spot) → List Tree
path_above None = []
path_above (Some s) = path_of (placed s.now)

abbrev pub place_of : Spot → Place
place_of s = (out-Spot s).element.now.place

abbrev pub node_pages : Node-F (List ℕ) (List ℕ) → List ℕ
node_pages (Node-F.Elem e) = e.now
node_pages (Node-F.Chars s) = []

abbrev pub element_pages : Element-F (List ℕ) (List ℕ) → List ℕ
element_pages e = e.place.page ∷ flat_map (λ pages. pages) e.children.now

-- the page numbers of an element and of those below it, in document order
abbrev pub pages_of : Element → List ℕ
pages_of = fold-Element (List ℕ) (List ℕ) node_pages element_pages

abbrev pub pages_in : Node → List ℕ
pages_in = fold-Node (List ℕ) (List ℕ) node_pages element_pages
