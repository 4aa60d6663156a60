use Rattle.std.proofs.Common.{◌≡◌, ◌∙◌, ◌+◌, ◌++◌, ◌∷◌, [], ap, map, sym, take, false, List, ℕ}
use Rattle.std.proofs.lemmas.List.{map-append, take_more}
use Rattle.ix_base.specs.Address.{page_base}
use Rattle.ix_base.specs.LocatedElements.{Paged}
use Rattle.ix_base.specs.Trees.{tree_of}
use Rattle.scopes.specs.Model.{Kept}
use Rattle.page_links.specs.declared.pages.Page.{Page}
use Rattle.page_links.specs.Model.{as_paged}
use Rattle.targets.proofs.at_once.bases_of.Goals as goal

pub loop-page-preserved : goal.loop-page-preserved
loop-page-preserved c =
    let pages = c.args.pages.now in
    let base = c.args.base.now in
    let i = c.loop-page.page-index in
    let p = c.page-item.result in
    let tree = tree_of p.root.now in
    let before = take i pages in
    let is : take (i + 1) pages ≡ before ++ p ∷ [] =
    take_more pages i p c.loop-page-test.true ∙ ap (λ (x : Page). before ++ x ∷ []) (sym c.page-item.is) in
    let on = λ (q : Paged). page_base base q.name q.tree in
    c.in_ok-add_page.ensures.ok
    ∙ ap (λ (x : List ℕ). record { pages = c.loop-page.bases.pages ++ page_base base x tree ∷ []; is_spent = false }) c.as_str.ensures
    ∙ ap (λ (b : Kept). record { pages = b.pages ++ page_base base p.name tree ∷ []; is_spent = false }) c.loop-page.invariant
    ∙ ap (λ (bs : List (List ℕ)). record { pages = bs; is_spent = false })
    (sym (map-append on (map as_paged before) (as_paged p ∷ [])) ∙ ap (map on) (sym (map-append as_paged before (p ∷ [])))
    ∙ ap (λ (xs : List Page). map on (map as_paged xs)) (sym is))
