-- The namespaces of a page with their numbers.
use Rattle.std.specs.Prelude.{◌≡◌, ◌==◌, ℕ, List, [], ◌∷◌, ◌++◌, flat_map, map, IfSome, Option, None, Some, bytes_eq}
use Rattle.std.specs.Borrow.{Bor}
use Rattle.std.specs.List.{Contains}
use Rattle.std.specs.Option.{option_map_or}
use Rattle.ix_base.specs.declared.attrs.Attrs.{Attrs}
use Rattle.ix_base.specs.declared.outer.Outer.{Outer}
use Rattle.ix_base.specs.declared.tree.Binding.{Binding}
use Rattle.ix_base.specs.declared.tree.Element.{Element}
use Rattle.ix_base.specs.declared.tree.Level.{Level}
use Rattle.ix_base.specs.declared.tree.Level.TheOpen.{Level-F}
use Rattle.ix_base.specs.declared.tree.Level.TheFolds.{fold-Level}
use Rattle.ix_base.specs.declared.tree.Name.{Name}
use Rattle.ix_base.specs.declared.tree.Node.{Node}
use Rattle.ix_base.specs.declared.tree.Node.TheOpen.{Node-F, Element-F}
use Rattle.ix_base.specs.declared.tree.Node.TheFolds.{fold-Node, fold-Element}
use Rattle.ix_base.specs.declared.tree.Scope.{Scope}

pub record Space : Type 0 where
  pub number : ℕ
  pub text : List ℕ

-- the namespace of a name
abbrev pub space_of : Name → Space
space_of n = record { number = n.number; text = n.ns.now }

-- the namespace that a prefix is bound to
abbrev pub space_bound : Binding → Space
space_bound b = record { number = b.number; text = b.ns.now }

abbrev pub level_step : Level-F (List Space) → List Space
level_step l = map space_bound l.own.list.now ++ option_map_or (λ above. above.now) l.above []

-- those that are declared at a level and above it
abbrev pub spaces_at : Level → List Space
spaces_at = fold-Level (List Space) level_step

abbrev pub spaces_above : Option (Bor Level) → List Space
spaces_above None = []
spaces_above (Some l) = spaces_at l.now

-- those that are declared around what stands in a scope
abbrev pub spaces_bound : Scope → List Space
spaces_bound s = spaces_above s.level

abbrev pub spaces_named : Attrs → List Space
spaces_named a = map (λ x. space_of x.name.now) a.written.now

abbrev pub node_spaces : Node-F (List Space) (List Space) → List Space
node_spaces (Node-F.Elem e) = e.now
node_spaces (Node-F.Chars s) = []

abbrev pub element_spaces : Element-F (List Space) (List Space) → List Space
element_spaces e = space_of e.name.now ∷ (spaces_named e.attrs ++ spaces_bound e.scope ++ flat_map (λ l. l) e.children.now)

-- those of an element and of all below it: of the names, and those that are declared around them
abbrev pub spaces_of : Element → List Space
spaces_of = fold-Element (List Space) (List Space) node_spaces element_spaces

abbrev pub spaces_in : Node → List Space
spaces_in = fold-Node (List Space) (List Space) node_spaces element_spaces

-- two of them have one number exactly where they have one text
abbrev pub AreNumbered : List Space → Type 0
AreNumbered spaces = (a b : Space) → Contains spaces a → Contains spaces b → (a.number == b.number) ≡ bytes_eq a.text b.text

-- the number of the namespace around, where there is one, is compared with those of these
abbrev pub IsOuter : Outer → List Space → Type 0
IsOuter o spaces = IfSome o.number (λ n. AreNumbered (record { number = n; text = o.ns.now } ∷ spaces))
