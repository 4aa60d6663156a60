-- Sound trees: what every tree of a page keeps, as a condition on the tree by itself.
use Rattle.std.specs.Prelude.{◌≡◌, ◌≢◌, ◌⊎◌, ℕ, suc, ◌<◌, true, List, [], ◌∷◌, ◌++◌, map, All, Some, codes}
use Rattle.std.specs.Ordering.{nat_cmp, is_lt}
use Rattle.std.specs.Cmp.Lexicographic.{slice_cmp}
use Rattle.ix_base.specs.declared.tree.Element.{Element}
use Rattle.ix_base.specs.Elements.{pages_of}
use Rattle.ix_base.specs.Trees.{Named, Valued, Bound, Head, Nodes, none, chars, elem, Tree, tree_of}
use Rattle.ix_base.specs.NcName.{is_ncname, are_allowed}
use Rattle.ix_base.specs.Scope.{namespace_of}
use Rattle.ix_base.specs.Namespaces.{xml_namespace, xmlns_namespace}
use Rattle.ix_base.specs.Spaces.{AreNumbered, spaces_of}

-- each number is below the next
abbrev pub Rise : List ℕ → Type 0
Rise [] = Unit {0}
Rise (n ∷ []) = Unit {0}
Rise (n ∷ m ∷ ns) = (n < m) × Rise (m ∷ ns)

-- the prefixes are in byte order, each once
abbrev pub AreSorted : List Bound → Type 0
AreSorted [] = Unit {0}
AreSorted (b ∷ []) = Unit {0}
AreSorted (b ∷ c ∷ scope) = (is_lt (slice_cmp nat_cmp b.prefix c.prefix) ≡ true) × AreSorted (c ∷ scope)

-- no two attributes have one name
abbrev pub AreDistinct : List Named → Type 0
AreDistinct [] = Unit {0}
AreDistinct (n ∷ ns) = All (λ m. n ≢ m) ns × AreDistinct ns

-- a binding that a scope may list: the prefix is a name or empty, and xml and its namespace belong together
pub record IsSoundBinding (b : Bound) : Type 0 where
  pub prefix : (b.prefix ≡ []) ⊎ (is_ncname b.prefix ≡ true)
  pub some : b.ns ≢ []
  pub xml : b.prefix ≢ [] → b.ns ≡ xml_namespace → b.prefix ≡ codes "xml"
  pub plain : b.ns ≢ xmlns_namespace
  pub allowed : are_allowed b.ns ≡ true

pub record IsSoundName (n : Named) : Type 0 where
  pub local : is_ncname n.local ≡ true
  pub plain : n.ns ≢ xmlns_namespace
  pub allowed : are_allowed n.ns ≡ true

pub record IsSoundAttribute (a : Valued) : Type 0 where
  pub name : IsSoundName a.name
  pub undeclaring : a.name.ns ≡ [] → a.name.local ≢ codes "xmlns"
  pub allowed : are_allowed a.value ≡ true

pub record IsSoundHead (h : Head) : Type 0 where
  pub name : IsSoundName h.name
  pub attributes : All IsSoundAttribute h.attrs
  pub distinct : AreDistinct (map (λ a. a.name) h.attrs)
  pub bindings : All IsSoundBinding h.scope
  pub sorted : AreSorted h.scope
  pub xml : namespace_of h.scope (codes "xml") ≡ Some xml_namespace

-- the nodes don't begin with a text
abbrev pub IsApart : Nodes → Type 0
IsApart none = Unit {0}
IsApart (chars text rest) = ⊥
IsApart (elem head children rest) = Unit {0}

-- sound nodes, at most so many elements deep
abbrev pub AreSound : ℕ → Nodes → Type 0
AreSound depth none = Unit {0}
AreSound depth (chars text rest) = (text ≢ []) × (are_allowed text ≡ true) × IsApart rest × AreSound depth rest
AreSound depth (elem head children rest) = (below : ℕ) × (depth ≡ suc below) × IsSoundHead head × AreSound below children × AreSound depth rest

-- the offsets of the elements, in document order
abbrev pub offsets_of : Nodes → List ℕ
offsets_of none = []
offsets_of (chars text rest) = offsets_of rest
offsets_of (elem head children rest) = head.offset ∷ (offsets_of children ++ offsets_of rest)

-- a sound tree whose elements are at most so deep, the root being 1
pub record IsSoundTree (tree : Tree) (depth : ℕ) : Type 0 where
  pub nodes : AreSound depth (elem tree.head tree.children none)
  pub offsets : Rise (offsets_of (elem tree.head tree.children none))

-- a root of a sound tree whose elements are all of the page with this number, on which the namespaces are numbered
pub record IsSoundRoot (root : Element) (page depth : ℕ) : Type 0 where
  pub tree : IsSoundTree (tree_of root) depth
  pub pages : All (λ p. p ≡ page) (pages_of root)
  pub spaces : AreNumbered (spaces_of root)
