-- From the pages that a set keeps to what is asked of its elements.
use Rattle.ix_base.specs.declared.limits.TheConstants.{DEEPEST_ELEMENT}
use Rattle.std.proofs.Common.{◌≡◌, ◌∙◌, ap, sym, subst, ℕ, suc, ◌+◌, ◌<◌, List, [], ◌∷◌, ◌++◌, length, map, drop, take, get_or, ◌-◌, arith, add-one, append_assoc, append-nil, rules, false}
use Rattle.std.specs.List.{All, flat_map}
use Rattle.std.proofs.Math.Seq.{drop-append_seam, drop-cons, take-length}
use Rattle.std.proofs.lemmas.List.{drop-map, length-drop, length-map, map-append}
use Rattle.std.specs.Borrow.{Bor}
use Rattle.std.proofs.lemmas.List.Elements.{All-cons, All-head, All-nil}
use Rattle.std.proofs.lemmas.List.Folds.{flat_map-map}
use Rattle.ix_base.specs.declared.breach.Found.{Found}
use Rattle.ix_base.specs.declared.tree.Element.{Element}
use Rattle.ix_base.specs.declared.tree.Node.{Node, the_lemmas}
use Rattle.ix_base.specs.ElementRules.{found_on}
use Rattle.ix_base.specs.Elements.{pages_in, pages_of}
use Rattle.ix_base.specs.Address.{page_base}
use Rattle.ix_base.specs.declared.tree.Spot.{Spot}
use Rattle.ix_base.specs.LocatedElements.{Located, Paged, located, marked, marked_from, page_marked}
use Rattle.ix_base.specs.Sound.{IsSoundRoot, IsSoundTree}
use Rattle.ix_base.specs.Trees.{tree_of}
use Rattle.id_table.specs.Model.{AreChosen, Held}
use Rattle.id_table.specs.Tables.{all_located}
use Rattle.scopes.specs.Model.{Kept}
use Rattle.page_links.specs.declared.pages.Page.{Page}
use Rattle.target_contents.specs.Faults.{faults_from}
use Rattle.page_links.specs.Model.{AreSoundFrom, Keeps, as_paged}

pub sound-trees : (n : ℕ) (pages : List Page) → AreSoundFrom n pages → All (λ p. IsSoundTree p.tree DEEPEST_ELEMENT) (map as_paged pages)
sound-trees n [] h = All-nil (λ (p : Paged). IsSoundTree p.tree DEEPEST_ELEMENT)
sound-trees n (p ∷ pages) h = All-cons (λ (q : Paged). IsSoundTree q.tree DEEPEST_ELEMENT) (as_paged p) (map as_paged pages) h.0.tree (sound-trees (suc n) pages h.1)

pub sound-push : (n : ℕ) (pages : List Page) (p : Page) → AreSoundFrom n pages → IsSoundRoot p.root.now (n + length pages) DEEPEST_ELEMENT → AreSoundFrom n (pages ++ p ∷ [])
sound-push n [] p h r = (subst (λ k. IsSoundRoot p.root.now k DEEPEST_ELEMENT) (let e : n + 0 ≡ n = omega arith in e) r, tt)
sound-push n (q ∷ pages) p h r =
    (h.0, sound-push (suc n) pages p h.1 (subst (λ k. IsSoundRoot p.root.now k DEEPEST_ELEMENT) (let e : n + suc (length pages) ≡ suc n + length pages = omega arith in e) r))

abbrev pub pages_from : ℕ → List Page → List Paged
pages_from n pages = map as_paged (drop n pages)

-- the page at this index and those behind it
cut-at : (pages : List Page) (n : ℕ) (d : Page) → n < length pages → drop n pages ≡ get_or pages n d ∷ drop (n + 1) pages
cut-at pages n d h = drop-cons pages n d h ∙ ap (λ k. get_or pages n d ∷ drop k pages) (sym (add-one n))

sound-at : (pages : List Page) (n : ℕ) (d : Page) → n < length pages → AreSoundFrom n (drop n pages) → AreSoundFrom n (get_or pages n d ∷ drop (n + 1) pages)
sound-at pages n d h all = subst (λ (xs : List Page). AreSoundFrom n xs) (cut-at pages n d h) all

-- those behind it are sound
pub sound-behind : (pages : List Page) (n : ℕ) → n < length pages → AreSoundFrom n (drop n pages) → AreSoundFrom (n + 1) (drop (n + 1) pages)
sound-behind [] n h all = absurd (omega arith)
sound-behind (p ∷ pages) n h all =
    subst (λ k. AreSoundFrom k (drop (n + 1) (p ∷ pages))) (sym (add-one n)) (sound-at (p ∷ pages) n p h all).1

same-pages : (ns : List Node) → flat_map (λ pages. pages) (map pages_in ns) ≡ flat_map pages_in ns
same-pages ns = flat_map-map (λ pages. pages) pages_in ns

-- an element's number, and those below it
element-pages : (e : Element) → pages_of e ≡ e.place.page ∷ flat_map pages_in e.children.now
element-pages e = search (rules, the_lemmas, same-pages)

pub root-page : (e : Element) (n : ℕ) → IsSoundRoot e n DEEPEST_ELEMENT → e.place.page ≡ n
root-page e n h = All-head (λ (p : ℕ). p ≡ n) e.place.page (flat_map pages_in e.children.now) (subst (All (λ (p : ℕ). p ≡ n)) (element-pages e) h.pages)

-- one more page was looked through
pub faults-more : (pages : List Page) (n : ℕ) (p : Page) (found more : List Found) → n < length pages → p ≡ get_or pages n p → AreSoundFrom n (drop n pages)
    → more ≡ found ++ found_on p.root.now.place.page (tree_of p.root.now)
    → found ++ faults_from n (pages_from n pages) ≡ faults_from 0 (map as_paged pages)
    → more ++ faults_from (n + 1) (pages_from (n + 1) pages) ≡ faults_from 0 (map as_paged pages)
faults-more pages n p found more h is all added before =
    let rest = faults_from (n + 1) (pages_from (n + 1) pages) in
    let here : drop n pages ≡ p ∷ drop (n + 1) pages = cut-at pages n p h ∙ ap (λ (q : Page). q ∷ drop (n + 1) pages) (sym is) in
    let sound : AreSoundFrom n (p ∷ drop (n + 1) pages) = subst (λ (xs : List Page). AreSoundFrom n xs) here all in
    let on : found_on p.root.now.place.page (tree_of p.root.now) ≡ found_on n (tree_of p.root.now) =
    ap (λ k. found_on k (tree_of p.root.now)) (root-page p.root.now n sound.0) in
    let cut : faults_from n (pages_from n pages) ≡ found_on n (tree_of p.root.now) ++ rest =
    ap (λ (xs : List Page). faults_from n (map as_paged xs)) here
    ∙ ap (λ k. found_on n (tree_of p.root.now) ++ faults_from k (pages_from (n + 1) pages)) (sym (add-one n)) in
    ap (λ (xs : List Found). xs ++ rest) (added ∙ ap (λ (xs : List Found). found ++ xs) on)
    ∙ append_assoc found (found_on n (tree_of p.root.now)) rest ∙ ap (λ (xs : List Found). found ++ xs) (sym cut) ∙ before

-- one more page
marked-push : (n : ℕ) (pages : List Paged) (p : Paged) → marked_from n (pages ++ p ∷ []) ≡ marked_from n pages ++ page_marked (n + length pages) p.tree
marked-push n [] p = append-nil (page_marked n p.tree) ∙ ap (λ k. page_marked k p.tree) (let e : n ≡ n + 0 = omega arith in e)
marked-push n (q ∷ pages) p =
    ap (λ xs. page_marked n q.tree ++ xs) (marked-push (suc n) pages p)
    ∙ sym (append_assoc (page_marked n q.tree) (marked_from (suc n) pages) (page_marked (suc n + length pages) p.tree))
    ∙ ap (λ k. (page_marked n q.tree ++ marked_from (suc n) pages) ++ page_marked k p.tree) (let e : suc n + length pages ≡ n + suc (length pages) = omega arith in e)

-- the elements with those of one more page, whose number is that of the pages before
pub marked-more : (name : List ℕ) (root : Bor Element) (pages more : List Page) → IsSoundRoot root.now (length (map as_paged pages)) DEEPEST_ELEMENT
    → more ≡ pages ++ record { name = name; root = root } ∷ []
    → marked (map as_paged pages) ++ page_marked root.now.place.page (tree_of root.now) ≡ marked (map as_paged more)
marked-more name root pages more sound m =
    let p : Page = record { name = name; root = root } in
    let all : map as_paged more ≡ map as_paged pages ++ as_paged p ∷ [] = ap (map as_paged) m ∙ map-append as_paged pages (p ∷ []) in
    let zero : length (map as_paged pages) ≡ 0 + length (map as_paged pages) = omega arith in
    let at : root.now.place.page ≡ 0 + length (map as_paged pages) = root-page root.now (length (map as_paged pages)) sound ∙ zero in
    ap (λ n. marked (map as_paged pages) ++ page_marked n (tree_of root.now)) at
    ∙ sym (marked-push 0 (map as_paged pages) (as_paged p)) ∙ ap marked (sym all)

pub keeps-more : (base name : List ℕ) (root : Bor Element) (pages more : List Page) (index new_index : Held) (bases new_bases : Kept)
    → Keeps base pages index bases → IsSoundRoot root.now (length (map as_paged pages)) DEEPEST_ELEMENT
    → more ≡ pages ++ record { name = name; root = root } ∷ []
    → new_index.spots ≡ marked (map as_paged more) → new_index.is_spent ≡ false → AreChosen new_index
    → new_bases ≡ record { pages = bases.pages ++ page_base base name (tree_of root.now) ∷ []; is_spent = false }
    → Keeps base more new_index new_bases
keeps-more base name root pages more index new_index bases new_bases k sound m spots unspent chosen b =
    let p : Page = record { name = name; root = root } in
    let all : map as_paged more ≡ map as_paged pages ++ as_paged p ∷ [] = ap (map as_paged) m ∙ map-append as_paged pages (p ∷ []) in
    let count : length (map as_paged pages) ≡ length pages = length-map pages as_paged in
    let none : length pages ≡ 0 + length pages = omega arith in
    record {
      spots = spots;
      unspent = unspent;
      chosen = chosen;
      bases = b ∙ ap (λ xs. record { pages = xs; is_spent = false })
          (ap (λ (h : Kept). h.pages ++ page_base base name (tree_of root.now) ∷ []) k.bases
          ∙ sym (map-append (λ (q : Paged). page_base base q.name q.tree) (map as_paged pages) (as_paged p ∷ []))
          ∙ ap (map (λ (q : Paged). page_base base q.name q.tree)) (sym all));
      sound = subst (AreSoundFrom 0) (sym m) (sound-push 0 pages p k.sound (subst (λ n. IsSoundRoot root.now n DEEPEST_ELEMENT) (count ∙ none) sound));
    }

-- the part of a list from a number on
abbrev pub part_from : ℕ → List (Bor Spot) → List (Bor Spot)
part_from n xs = take (length xs - n) (drop n xs)

pub part-drop : (n : ℕ) (xs : List (Bor Spot)) → part_from n xs ≡ drop n xs
part-drop n xs = ap (λ k. take k (drop n xs)) (sym (length-drop n xs)) ∙ take-length (drop n xs)

-- what stands behind what was there is what came
pub behind : (before after : List (Bor Spot)) (xs ys : List Located) → all_located before ≡ xs → all_located after ≡ xs ++ ys
    → xs ++ all_located (part_from (length before) after) ≡ xs ++ ys
behind before after xs ys b a =
    let to : Bor Spot → Located = λ s. located s.now in
    let count : length before ≡ length xs = sym (length-map before to) ∙ ap length b in
    ap (λ zs. xs ++ zs) (ap all_located (part-drop (length before) after) ∙ sym (drop-map to (length before) after) ∙ ap (drop (length before)) a ∙ ap (λ n. drop n (xs ++ ys)) count ∙ drop-append_seam xs ys)
