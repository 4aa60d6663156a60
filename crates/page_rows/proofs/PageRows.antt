-- The page number of a sound root is that of its elements.
use Rattle.std.proofs.Common.{◌≡◌, ℕ, List, subst, sym}
use Rattle.std.specs.Prelude.{All, flat_map}
use Rattle.std.proofs.lemmas.List.Elements.{All-head}
use Rattle.ix_base.specs.Elements.{pages_of, pages_in}
use Rattle.ix_base.specs.Sound.{IsSoundRoot}
use Rattle.ix_base.specs.declared.tree.Element.{Element}
use Rattle.page_tree.proofs.PageNumbers.{pages-Element}

pub own-pages : (e : Element) (page depth : ℕ) → IsSoundRoot e page depth → All (λ p. p ≡ e.place.page) (pages_of e)
own-pages e page depth sound =
    let P : List ℕ → Type 0 = λ ps. All (λ p. p ≡ page) ps in
    let here : e.place.page ≡ page = All-head (λ p. p ≡ page) e.place.page (flat_map pages_in e.children.now) (subst P (pages-Element e) sound.pages) in
    let Q : ℕ → Type 0 = λ n. All (λ p. p ≡ n) (pages_of e) in
    subst Q (sym here) sound.pages
