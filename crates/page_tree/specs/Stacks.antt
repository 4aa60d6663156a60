-- What the code's stack of open elements stands for.
use Rattle.std.specs.Prelude.{◌≡◌, ℕ, List, [], ◌∷◌, ◌++◌, flat_map, All, Option, Some, None}
use Rattle.std.specs.Borrow.{Bor}
use Rattle.ix_base.specs.Elements.{pages_of, pages_in}
use Rattle.ix_base.specs.Spaces.{Space, space_of, spaces_bound, spaces_in, spaces_named, spaces_of}
use Rattle.ix_base.specs.Trees.{attrs_in, bindings_in, named, nodes_of}
use Rattle.ix_base.specs.declared.tree.Element.{Element}
use Rattle.page_tree.specs.Machine.{Frame}
use Rattle.page_tree.specs.declared.opened.Open.{Open}

abbrev pub frame : Open → Frame
frame o = record {
  written = o.written.now;
  head = record { offset = o.place.offset; name = named o.name.now; attrs = attrs_in o.attrs; scope = bindings_in o.scope };
  done = nodes_of o.children.items;
}

-- open elements, the innermost last, over some frames, the innermost first
abbrev pub frames_onto : List Frame → List Open → List Frame
frames_onto fs [] = fs
frames_onto fs (o ∷ os) = frames_onto (frame o ∷ fs) os

abbrev pub frames_of : List Open → List Frame
frames_of os = frames_onto [] os

-- the page numbers of an open element and of what is built in it
abbrev pub pages_open : Open → List ℕ
pages_open o = o.place.page ∷ flat_map pages_in o.children.items

-- the namespaces of an open element and of what is built in it
abbrev pub spaces_open : Open → List Space
spaces_open o = space_of o.name.now ∷ (spaces_named o.attrs ++ spaces_bound o.scope ++ flat_map spaces_in o.children.items)

-- what a root has, if there is one
abbrev pub under : {X : Type 0} → (Element → List X) → Option (Bor Element) → List X
under of None = []
under of (Some e) = of e.now

-- what all has that is built
abbrev pub built : {X : Type 0} → (Element → List X) → (Open → List X) → List Open → Option (Bor Element) → List X
built of open_of os root = flat_map open_of os ++ under of root

-- the page numbers of all that is built
abbrev pub pages_built : List Open → Option (Bor Element) → List ℕ
pages_built os root = built pages_of pages_open os root

-- the namespaces of all that is built
abbrev pub spaces_built : List Open → Option (Bor Element) → List Space
spaces_built os root = built spaces_of spaces_open os root

-- each of these page numbers is this one
abbrev pub AreAll : ℕ → List ℕ → Type 0
AreAll page pages = All (λ p. p ≡ page) pages
