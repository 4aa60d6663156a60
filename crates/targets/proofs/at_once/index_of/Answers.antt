use Rattle.ix_base.specs.declared.limits.TheConstants.{DEEPEST_ELEMENT}
use Rattle.std.proofs.Common.{◌≡◌, ◌∙◌, ◌+◌, ◌++◌, ◌∷◌, [], All, ap, subst, sym, take, false, List}
use Rattle.std.proofs.lemmas.List.{take_more}
use Rattle.ix_base.specs.Elements.{pages_of}
use Rattle.ix_base.specs.LocatedElements.{Located, page_marked}
use Rattle.ix_base.specs.Sound.{IsSoundRoot}
use Rattle.ix_base.specs.Trees.{tree_of}
use Rattle.id_table.specs.Model.{Held}
use Rattle.page_links.specs.declared.pages.Page.{Page}
use Rattle.targets.proofs.ClosingLaws.{marked-more, root-page}
use Rattle.targets.proofs.MadeLaws.{paged_count, sound_nth}
use Rattle.targets.proofs.at_once.index_of.Goals as goal

pub add_page-requires : goal.add_page-requires
add_page-requires c =
    let root = c.page-item.result.root.now in
    let i = c.loop-page.page-index in
    let sound = sound_nth 0 c.args.pages.now i c.page-item.result c.loop-page-test.true c.page-item.is c.requires in
    record {
      page = subst (λ k. All (λ p. p ≡ k) (pages_of root)) (sym (root-page root (0 + i) sound)) sound.pages;
      spaces = sound.spaces;
    }

pub loop-page-preserved : goal.loop-page-preserved
loop-page-preserved c =
    let pages = c.args.pages.now in
    let i = c.loop-page.page-index in
    let p = c.page-item.result in
    let before = take i pages in
    let is : take (i + 1) pages ≡ before ++ p ∷ [] =
    take_more pages i p c.loop-page-test.true ∙ ap (λ (x : Page). before ++ x ∷ []) (sym c.page-item.is) in
    let sound = subst (λ k. IsSoundRoot p.root.now k DEEPEST_ELEMENT) (sym (paged_count pages i c.loop-page-test.true))
    (sound_nth 0 pages i p c.loop-page-test.true c.page-item.is c.requires) in
    c.in_ok-add_page.ensures.ok
    ∙ ap (λ (h : Held). record { spots = h.spots ++ page_marked p.root.now.place.page (tree_of p.root.now); choices = h.choices; is_spent = false })
    c.loop-page.invariant
    ∙ ap (λ (es : List Located). record { spots = es; choices = []; is_spent = false }) (marked-more p.name p.root before (take (i + 1) pages) sound is)
