use Rattle.ix_base.specs.declared.limits.TheConstants.{DEEPEST_ELEMENT}
use Rattle.std.proofs.Common.{◌≡◌, ◌∙◌, ◌∷◌, [], ◌++◌, ap, length, map, subst, sym, take, false, List}
use Rattle.ix_base.specs.Address.{page_base}
use Rattle.ix_base.specs.LocatedElements.{Located, marked, page_marked}
use Rattle.ix_base.specs.Sound.{IsSoundRoot}
use Rattle.ix_base.specs.Trees.{tree_of}
use Rattle.id_table.specs.Model.{Held}
use Rattle.id_table.specs.Tables.{all_located}
use Rattle.page_links.specs.declared.pages.Page.{Page}
use Rattle.page_links.specs.Choices.{HasChoices}
use Rattle.page_links.specs.Model.{HeldSet, as_paged, names_with}
use Rattle.page_links.specs.LinkTables.{AreLinks}
use Rattle.page_links.proofs.ChoiceLaws.{index-chosen}
use Rattle.targets.proofs.ClosingLaws.{behind, keeps-more, marked-more}
use Rattle.targets.proofs.SetLaws.{choices-after, choices-before, front-less, front-of, links-after, links-before, part-pages, spots_less}
use Rattle.targets.proofs.set.Set.add_page.Goals as goal

pub slice_bounds-came-count : goal.slice_bounds-came-count
slice_bounds-came-count c =
    spots_less c.spots-before.result.now c.spots.result.now c.self.inside.index c.add_page.new.self _ c.spots-before.ensures.elements c.spots.ensures.elements
    c.in_ok-add_page.ensures.ok

pub add_all-requires-clause-some : goal.add_all-requires-clause-some
add_all-requires-clause-some c =
    let kept = c.self.invariant c.if-self.false in
    let pages = c.self.inside.pages.items in (
      marked (map as_paged pages),
      subst (λ (ps : List Page). AreLinks (names_with ps c.args.name.now) (marked (map as_paged pages)) c.self.inside.links)
          (sym c.as_slice.ensures.value) (links-before pages c.args.name.now c.self.inside.links kept.1),
    )

pub add_all-requires-clause-pages : goal.add_all-requires-clause-pages
add_all-requires-clause-pages c = part-pages (length c.spots-before.result.now) c.spots.result.now c.spots.ensures.pages

pub choose_from-requires-clause-links : goal.choose_from-requires-clause-links
choose_from-requires-clause-links c =
    let kept = c.self.invariant c.if-self.false in
    let pages = c.self.inside.pages.items in
    let next = c.args.name.now in
    let xs = marked (map as_paged pages) in
    let ys = page_marked c.args.root.now.place.page (tree_of c.args.root.now) in
    let all : c.add_page.new.self.spots ≡ xs ++ ys = ap (λ (h : Held). h.spots) c.in_ok-add_page.ensures.ok ∙ ap (λ l. l ++ ys) kept.0.spots in (
      names_with c.as_slice.result.now next,
      subst (λ (es : List Located). AreLinks (names_with c.as_slice.result.now next) es c.add_all.new.self)
          (behind c.spots-before.result.now c.spots.result.now xs ys (c.spots-before.ensures.elements ∙ kept.0.spots) (c.spots.ensures.elements ∙ all) ∙ sym all)
          (c.in_ok-add_all.ensures xs (subst (λ (ps : List Page). AreLinks (names_with ps next) xs c.self.inside.links) (sym c.as_slice.ensures.value) (links-before pages next c.self.inside.links kept.1))),
    )

pub choose_from-requires-clause-first : goal.choose_from-requires-clause-first
choose_from-requires-clause-first c =
    let kept = c.self.invariant c.if-self.false in
    let xs = marked (map as_paged c.self.inside.pages.items) in
    let ys = page_marked c.args.root.now.place.page (tree_of c.args.root.now) in
    let all : c.add_page.new.self.spots ≡ xs ++ ys = ap (λ (h : Held). h.spots) c.in_ok-add_page.ensures.ok ∙ ap (λ l. l ++ ys) kept.0.spots in
    front-less c.spots-before.result.now xs ys c.add_page.new.self.spots (c.spots-before.ensures.elements ∙ kept.0.spots) all

pub invariant_of-self-2 : goal.invariant_of-self-2
invariant_of-self-2 c = λ u.
    let kept = c.self.invariant c.if-self.false in
    let pages = c.self.inside.pages.items in
    let more = c.push.new.self.items in
    let next = c.args.name.now in
    let page : Page = record { name = next; root = c.args.root } in
    let seen = c.as_slice.ensures.value in
    let xs = marked (map as_paged pages) in
    let ys = page_marked c.args.root.now.place.page (tree_of c.args.root.now) in
    let index = c.add_page.new.self in
    let chosen_index = c.choose_from.new.index in
    let links = c.add_all.new.self in
    let is : more ≡ pages ++ page ∷ [] = c.in_ok-push.ensures.items ∙ ap (λ n. pages ++ record { name = n; root = c.args.root } ∷ []) c.in_ok-own.ensures in
    let all : index.spots ≡ xs ++ ys = ap (λ (h : Held). h.spots) c.in_ok-add_page.ensures.ok ∙ ap (λ l. l ++ ys) kept.0.spots in
    let front : all_located c.spots-before.result.now ≡ xs = c.spots-before.ensures.elements ∙ kept.0.spots in
    let sound : IsSoundRoot c.args.root.now (length (map as_paged pages)) DEEPEST_ELEMENT =
    subst (λ (h : HeldSet). IsSoundRoot c.args.root.now (length h.held.pages) DEEPEST_ELEMENT) (sym c.self.view_is) c.requires in
    let whole : index.spots ≡ marked (map as_paged more) = all ∙ marked-more next c.args.root pages more sound is in
    let came : AreLinks (names_with pages next) xs c.self.inside.links = links-before pages next c.self.inside.links kept.1 in
    let linked : AreLinks (names_with c.as_slice.result.now next) index.spots links =
    subst (λ (es : List Located). AreLinks (names_with c.as_slice.result.now next) es links)
    (behind c.spots-before.result.now c.spots.result.now xs ys front (c.spots.ensures.elements ∙ all) ∙ sym all)
    (c.in_ok-add_all.ensures xs (subst (λ (ps : List Page). AreLinks (names_with ps next) xs c.self.inside.links) (sym seen) came)) in
    let before : HasChoices (names_with pages next) (take (length c.spots-before.result.now) index.spots) index =
    subst (λ (es : List Located). HasChoices (names_with pages next) es index) (sym (front-of c.spots-before.result.now xs ys index.spots front all))
    (choices-before pages next c.self.inside.index index (ap (λ (h : Held). h.choices) c.in_ok-add_page.ensures.ok) kept.2) in
    let now : AreLinks (names_with pages next) index.spots links = subst (λ (ps : List Page). AreLinks (names_with ps next) index.spots links) seen linked in
    let has : HasChoices (names_with pages next) index.spots chosen_index = c.in_ok-choose_from.ensures.choices (names_with pages next) now before in
    let same : chosen_index.spots ≡ index.spots = c.in_ok-choose_from.ensures.spots.0 in (
      keeps-more c.self.inside.base next c.args.root pages more c.self.inside.index chosen_index c.self.inside.bases c.add_page-2.new.self kept.0 sound is
          (same ∙ whole) (c.in_ok-choose_from.ensures.spots.1 (ap (λ (h : Held). h.is_spent) c.in_ok-add_page.ensures.ok))
          (index-chosen (names_with pages next) chosen_index (subst (λ (es : List Located). HasChoices (names_with pages next) es chosen_index) (sym same) has))
          (c.in_ok-add_page-2.ensures.ok
          ∙ ap (λ x. record { pages = c.self.inside.bases.pages ++ page_base x c.args.name.now (tree_of c.args.root.now) ∷ []; is_spent = false }) c.as_str.ensures),
      links-after pages more page is links (subst (λ (es : List Located). AreLinks (names_with pages next) es links) whole now),
      choices-after pages more page is chosen_index (subst (λ (es : List Located). HasChoices (names_with pages next) es chosen_index) whole has),
    )
