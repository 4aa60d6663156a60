-- The trees of pages are sound.
use Rattle.ix_base.specs.declared.limits.TheConstants.{DEEPEST_ELEMENT}
use Rattle.std.proofs.Common.{ℕ, List, [], ◌∷◌, All}
use Rattle.std.proofs.lemmas.List.Elements.{All-cons, All-nil}
use Rattle.ix_base.specs.LocatedElements.{Paged}
use Rattle.ix_base.specs.Sound.{IsSoundTree}
use Rattle.ix_base.specs.Trees.{Tree}
use Rattle.page_tree.specs.Page.{page}
use Rattle.targets.specs.Forest.{paged, AreTrees}

abbrev Sound : Paged → Type 0
Sound p = IsSoundTree p.tree DEEPEST_ELEMENT

pub sound_pages : ((b : List ℕ) (n : ℕ) (t : Tree) → page b n t → IsSoundTree t n)
    → (names bs : List (List ℕ)) (trees : List Tree) → AreTrees bs trees → All (λ (p : Paged). IsSoundTree p.tree DEEPEST_ELEMENT) (paged names trees)
sound_pages sound [] bs trees are = All-nil Sound
sound_pages sound (name ∷ names) bs [] are = All-nil Sound
sound_pages sound (name ∷ names) [] (t ∷ trees) are = absurd are
sound_pages sound (name ∷ names) (b ∷ bs) (t ∷ trees) are =
    All-cons Sound (record { name = name; tree = t }) (paged names trees) (sound b DEEPEST_ELEMENT t are.0) (sound_pages sound names bs trees are.1)
