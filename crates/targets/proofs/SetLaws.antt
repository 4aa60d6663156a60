-- One more page of a set: the links and the choices that are kept.
use Rattle.std.proofs.Common.{◌≡◌, ◌∙◌, ap, false, refl, sym, subst, ℕ, ◌+◌, ◌≤◌, List, [], ◌∷◌, ◌++◌, length, map, take, arith, length-append}
use Rattle.std.specs.Borrow.{Bor}
use Rattle.std.proofs.Math.Seq.{take-append_seam}
use Rattle.std.proofs.lemmas.List.{length-map}
use Rattle.std.proofs.lemmas.List.Elements.{All-drop}
use Rattle.ix_base.specs.declared.tree.Spot.{Spot}
use Rattle.ix_base.specs.LocatedElements.{Located, located, marked}
use Rattle.ix_base.specs.Spots.{IsOnOnePage}
use Rattle.id_table.specs.Model.{Choice, Held, chosen_in}
use Rattle.id_table.specs.Tables.{AreOnOwnPages, all_located}
use Rattle.scopes.specs.Model.{Kept}
use Rattle.page_links.specs.declared.pages.Page.{Page}
use Rattle.page_links.specs.declared.standing.Links.{Links}
use Rattle.page_links.specs.Choices.{HasChoices}
use Rattle.page_links.specs.Model.{Keeps, as_paged, names_with}
use Rattle.page_links.specs.LinkTables.{AreLinked, AreLinks}
use Rattle.targets.proofs.ClosingLaws.{part-drop, part_from}
use Rattle.targets.proofs.RenamedLaws.{choice-renamed, links-renamed, named-after, named-before}

module _ (pages : List Page) (next : List ℕ) where
  -- the links between the elements before, and the choices, while a page comes
  pub links-before : (links : Links) → AreLinks (names_with pages []) (marked (map as_paged pages)) links → AreLinks (names_with pages next) (marked (map as_paged pages)) links
  links-before links are = links-renamed (names_with pages []) (names_with pages next) (marked (map as_paged pages)) links (named-before pages next) are

  pub choices-before : (old new : Held) → new.choices ≡ old.choices → HasChoices (names_with pages []) (marked (map as_paged pages)) old
      → HasChoices (names_with pages next) (marked (map as_paged pages)) new
  choices-before old new same has id =
      ap (λ (cs : List Choice). chosen_in cs id) same ∙ has id
      ∙ choice-renamed (names_with pages []) (names_with pages next) (marked (map as_paged pages)) id (named-before pages next)

module _ (pages all : List Page) (p : Page) (is : all ≡ pages ++ p ∷ []) where
  -- the links between all elements, and the choices, once it is there
  pub links-after : (links : Links) → AreLinks (names_with pages p.name) (marked (map as_paged all)) links → AreLinks (names_with all []) (marked (map as_paged all)) links
  links-after links are = links-renamed (names_with pages p.name) (names_with all []) (marked (map as_paged all)) links (named-after pages all p is) are

  pub choices-after : (h : Held) → HasChoices (names_with pages p.name) (marked (map as_paged all)) h → HasChoices (names_with all []) (marked (map as_paged all)) h
  choices-after h has id = has id ∙ choice-renamed (names_with pages p.name) (names_with all []) (marked (map as_paged all)) id (named-after pages all p is)

-- the elements before are the first ones of all
pub front-of : (before : List (Bor Spot)) (xs ys all : List Located) → all_located before ≡ xs → all ≡ xs ++ ys → take (length before) all ≡ xs
front-of before xs ys all b a =
    let to : Bor Spot → Located = λ s. located s.now in
    let count : length before ≡ length xs = sym (length-map before to) ∙ ap length b in
    ap (take (length before)) a ∙ ap (λ n. take n (xs ++ ys)) count ∙ take-append_seam xs ys

-- there are as many at least
pub front-less : (before : List (Bor Spot)) (xs ys all : List Located) → all_located before ≡ xs → all ≡ xs ++ ys → length before ≤ length all
front-less before xs ys all b a =
    let to : Bor Spot → Located = λ s. located s.now in
    let count : length before ≡ length xs = sym (length-map before to) ∙ ap length b in
    let whole : length all ≡ length xs + length ys = ap length a ∙ length-append xs ys in
    omega arith

pub spots_less : (before after : List (Bor Spot)) (old new : Held) (ys : List Located) → all_located before ≡ old.spots → all_located after ≡ new.spots
    → new ≡ record { spots = old.spots ++ ys; choices = old.choices; is_spent = false } → length before ≤ length after
spots_less before after old new ys b a is =
    let to : Bor Spot → Located = λ s. located s.now in
    let count : length after ≡ length new.spots = sym (length-map after to) ∙ ap length a in
    let less = front-less before old.spots ys new.spots b (ap (λ (h : Held). h.spots) is) in
    omega arith

-- what stands above the elements that came is of their pages
pub part-pages : (n : ℕ) (spots : List (Bor Spot)) → AreOnOwnPages spots → AreOnOwnPages (part_from n spots)
part-pages n spots h = subst AreOnOwnPages (sym (part-drop n spots)) (All-drop (λ (s : Bor Spot). IsOnOnePage s.now) n spots h)

-- a set of no pages
none-kept : (base : List ℕ) (links : Links) → ((names : ℕ → List ℕ) → AreLinked names [] [] [] links)
    → Keeps base [] (record { spots = []; choices = []; is_spent = false }) (record { pages = []; is_spent = false })
    × AreLinks (names_with [] []) (marked (map as_paged [])) links × HasChoices (names_with [] []) (marked (map as_paged [])) (record { spots = []; choices = []; is_spent = false })
none-kept base links are = (
  record { spots = refl; unspent = refl; chosen = λ id. refl; bases = refl; sound = tt },
  are (names_with [] []),
  λ id. refl,
)

pub keeps-none : (base : List ℕ) (pages : List Page) (index : Held) (bases : Kept) (links : Links) → pages ≡ [] → index ≡ record { spots = []; choices = []; is_spent = false }
    → bases ≡ record { pages = []; is_spent = false } → ((names : ℕ → List ℕ) → AreLinked names [] [] [] links)
    → Keeps base pages index bases × AreLinks (names_with pages []) (marked (map as_paged pages)) links × HasChoices (names_with pages []) (marked (map as_paged pages)) index
keeps-none base pages index bases links p i b are =
    subst (λ (ps : List Page). Keeps base ps index bases × AreLinks (names_with ps []) (marked (map as_paged ps)) links × HasChoices (names_with ps []) (marked (map as_paged ps)) index) (sym p)
    (subst (λ (h : Held). Keeps base [] h bases × AreLinks (names_with [] []) (marked (map as_paged [])) links × HasChoices (names_with [] []) (marked (map as_paged [])) h) (sym i)
    (subst (λ (k : Kept). Keeps base [] (record { spots = []; choices = []; is_spent = false }) k × AreLinks (names_with [] []) (marked (map as_paged [])) links
    × HasChoices (names_with [] []) (marked (map as_paged [])) (record { spots = []; choices = []; is_spent = false })) (sym b) (none-kept base links are)))
