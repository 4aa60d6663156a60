-- The trees of pages, by their bytes.
use Rattle.std.specs.Prelude.{ℕ, suc, List, [], ◌∷◌, map}
use Rattle.std.specs.Borrow.{Bor}
use Rattle.ix_base.specs.declared.limits.TheConstants.{DEEPEST_ELEMENT}
use Rattle.ix_base.specs.declared.tree.Element.{Element}
use Rattle.ix_base.specs.LocatedElements.{Paged}
use Rattle.ix_base.specs.Sound.{IsSoundRoot}
use Rattle.ix_base.specs.Trees.{Tree, tree_of}
use Rattle.page_tree.specs.Page.{page}
use Rattle.target_contents.specs.PageSet.{PageSet}

-- these are the trees of pages with these bytes
abbrev pub AreTrees : List (List ℕ) → List Tree → Type 0
AreTrees [] [] = Unit {0}
AreTrees (b ∷ bs) (t ∷ ts) = page b DEEPEST_ELEMENT t × AreTrees bs ts
AreTrees bs ts = ⊥

-- pages of these names with these trees, as many as there are of both
abbrev pub paged : List (List ℕ) → List Tree → List Paged
paged [] trees = []
paged (name ∷ names) [] = []
paged (name ∷ names) (tree ∷ trees) = record { name = name; tree = tree } ∷ paged names trees

-- the set of these pages under this base
abbrev pub page_set : List ℕ → List (List ℕ) → List Tree → PageSet
page_set base names trees = record { base = base; pages = paged names trees }

-- the trees of these roots
abbrev pub trees_of : List (Bor Element) → List Tree
trees_of es = map (λ e. tree_of e.now) es

-- these are sound roots of pages numbered on from this number
abbrev pub AreSoundRoots : ℕ → List (Bor Element) → Type 0
AreSoundRoots n [] = Unit {0}
AreSoundRoots n (e ∷ es) = IsSoundRoot e.now n DEEPEST_ELEMENT × AreSoundRoots (suc n) es
