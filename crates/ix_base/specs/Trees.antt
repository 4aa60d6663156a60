-- A page's tree without where it lies in memory.
use Rattle.std.specs.Prelude.{ℕ, List, [], ◌∷◌, map, Option, Some, None}
use Rattle.std.specs.Borrow.{Bor}
use Rattle.std.specs.Option.{option_map_or}
use Rattle.ix_base.specs.declared.attrs.Attrs.{Attrs}
use Rattle.ix_base.specs.declared.tree.Node.{Node}
use Rattle.ix_base.specs.declared.tree.Element.{Element}
use Rattle.ix_base.specs.declared.tree.Level.{Level}
use Rattle.ix_base.specs.declared.tree.Level.TheOpen.{Level-F}
use Rattle.ix_base.specs.declared.tree.Level.TheFolds.{fold-Level}
use Rattle.ix_base.specs.declared.tree.Scope.{Scope}
pub use Rattle.ix_base.specs.Attributes.{Named, Valued, named, valued}
pub use Rattle.ix_base.specs.Bindings.{Bound, bound}
use Rattle.ix_base.specs.Scope.{scope_under}
use Rattle.ix_base.specs.declared.tree.Node.TheOpen.{Node-F, Element-F}
use Rattle.ix_base.specs.declared.tree.Node.TheFolds.{fold-Node, fold-Element}

-- what an element says of itself
pub record Head : Type 0 where
  pub offset : ℕ
  pub name : Named
  pub attrs : List Valued
  pub scope : List Bound

-- some nodes in order: a text and the nodes after it, or an element's head, its children and the nodes after it
pub data Nodes : Type 0 where
  none : Nodes
  chars : (text : List ℕ) → (rest : Nodes) → Nodes
  elem : (head : Head) → (children : Nodes) → (rest : Nodes) → Nodes

pub record Tree : Type 0 where
  pub head : Head
  pub children : Nodes

-- what attributes say
abbrev pub attrs_in : Attrs → List Valued
attrs_in a = map valued a.written.now

abbrev pub level_step : Level-F (List Bound) → List Bound
level_step l = scope_under (option_map_or (λ above. above.now) l.above []) (map bound l.own.list.now)

-- what is bound at a level: what is declared there, over what is bound above
abbrev pub bindings_at : Level → List Bound
bindings_at = fold-Level (List Bound) level_step

-- what is bound at a level, where there is one
abbrev pub bindings_above : Option (Bor Level) → List Bound
bindings_above None = []
bindings_above (Some l) = bindings_at l.now

-- what a scope binds
abbrev pub bindings_in : Scope → List Bound
bindings_in s = bindings_above s.level

abbrev pub head_of : {X Y : Type 0} → Element-F X Y → Head
head_of e = record { offset = e.place.offset; name = named e.name.now; attrs = attrs_in e.attrs; scope = bindings_in e.scope }

-- each node put before those after it
abbrev pub joined : List (Nodes → Nodes) → Nodes
joined [] = none
joined (f ∷ fs) = f (joined fs)

abbrev pub node_step : Node-F (Nodes → Nodes) Tree → Nodes → Nodes
node_step (Node-F.Elem e) = λ rest. elem e.now.head e.now.children rest
node_step (Node-F.Chars s) = λ rest. chars s.now rest

abbrev pub element_step : Element-F (Nodes → Nodes) Tree → Tree
element_step e = record { head = head_of e; children = joined e.children.now }

-- the node, before the nodes after it
abbrev pub before : Node → Nodes → Nodes
before = fold-Node (Nodes → Nodes) Tree node_step element_step

abbrev pub tree_of : Element → Tree
tree_of = fold-Element (Nodes → Nodes) Tree node_step element_step

abbrev pub nodes_of : List Node → Nodes
nodes_of ns = joined (map before ns)
