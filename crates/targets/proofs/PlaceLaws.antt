-- In pages whose trees have rising offsets no two marked elements stand at one place, and each stands on one of the pages.
use Rattle.ix_base.specs.declared.limits.TheConstants.{DEEPEST_ELEMENT}
use Rattle.std.proofs.Common.{◌≡◌, ◌∙◌, ap, sym, subst, refl, ℕ, suc, ◌+◌, ◌<◌, ◌≤◌, true, List, [], ◌∷◌, ◌++◌, All, length, map, append-nil, arith, ⊎_elim}
use Rattle.std.specs.List.{Contains}
use Rattle.std.proofs.lemmas.Bool.{and_parts, eqb-true}
use Rattle.std.proofs.lemmas.List.{map-append}
use Rattle.std.proofs.lemmas.List.Elements.{All-contains, All-contains_itself, All-head, All-map, All-tail, All-weaker, Contains-append_cases}
use Rattle.ix_base.specs.Elements.{Placed, below, elements_of, tree_at}
use Rattle.ix_base.specs.LocatedElements.{Located, Paged, is_marked, marked, marked_from, offset_of, on_page, page_marked, same_place}
use Rattle.ix_base.specs.Sound.{IsSoundTree, Rise, offsets_of}
use Rattle.ix_base.specs.Trees.{Nodes, Tree, none, chars, elem}
use Rattle.ix_base.proofs.OnceLemmas.{Contains-cases, Contains-from_filter, Contains-nil}

-- in a list whose elements rise by their numbers, two elements with one number are one
module _ {X : Type 0} (f : X → ℕ) where
  pub rise-later : (n : ℕ) (xs : List X) (x : X) → Rise (n ∷ map f xs) → Contains xs x → n < f x
  rise-later n [] x up h = absurd (Contains-nil x h)
  rise-later n (y ∷ ys) x up h = ⊎_elim
      (λ e. subst (λ z. n < f z) e up.0)
      (λ k. let more : f y < f x = rise-later (f y) ys x up.1 k in let less : n < f y = up.0 in omega arith)
      (Contains-cases y ys x h)

  pub rise-rest : (n : ℕ) (ns : List ℕ) → Rise (n ∷ ns) → Rise ns
  rise-rest n [] up = tt
  rise-rest n (m ∷ ns) up = up.1

  not-later : (z : X) (zs : List X) (x y : X) → Rise (f z ∷ map f zs) → z ≡ x → Contains zs y → f x ≡ f y → ⊥
  not-later z zs x y up p h e = let less : f z < f y = rise-later (f z) zs y up h in let same : f z ≡ f x = ap f p in omega arith

  rise-one : (xs : List X) (x y : X) → Rise (map f xs) → Contains xs x → Contains xs y → f x ≡ f y → x ≡ y
  rise-one [] x y up h k e = absurd (Contains-nil x h)
  rise-one (z ∷ zs) x y up h k e = ⊎_elim
      (λ p. ⊎_elim (λ q. sym p ∙ q) (λ c. absurd (not-later z zs x y up p c e)) (Contains-cases z zs y k))
      (λ b. ⊎_elim
      (λ q. absurd (not-later z zs y x up q b (sym e)))
      (λ c. rise-one zs x y (rise-rest (f z) (map f zs) up) b c e) (Contains-cases z zs y k))
      (Contains-cases z zs x h)

abbrev pub offset_at : Placed → ℕ
offset_at p = p.tree.head.offset

offsets-below : (above : List Tree) (ns : Nodes) → map offset_at (below above ns) ≡ offsets_of ns
offsets-below above none = refl
offsets-below above (chars text rest) = offsets-below above rest
offsets-below above (elem head children rest) =
    let t = tree_at head children in
    ap (λ l. head.offset ∷ l)
    (map-append offset_at (below (t ∷ above) children) (below above rest)
    ∙ (λ i. offsets-below (t ∷ above) children i ++ offsets-below above rest i))

pub offsets-elements : (t : Tree) → map offset_at (elements_of t) ≡ offsets_of (elem t.head t.children none)
offsets-elements t = ap (λ l. t.head.offset ∷ l) (offsets-below (t ∷ []) t.children ∙ sym (append-nil (offsets_of t.children)))

-- a marked element of a page is an element of its tree, with the page's number
abbrev pub IsOn : ℕ → Tree → Located → Type 0
IsOn n t x = (x.page ≡ n) × Contains (elements_of t) x.placed

pub page_marked-on : (n : ℕ) (t : Tree) (x : Located) → Contains (page_marked n t) x → IsOn n t x
page_marked-on n t x h =
    let es = elements_of t in
    All-contains (IsOn n t) (map (on_page n) es) x
    (All-map (IsOn n t) (on_page n) es (All-weaker (Contains es) (λ p. IsOn n t (on_page n p)) (λ p there. (refl, there)) es (All-contains_itself es)))
    (Contains-from_filter is_marked (map (on_page n) es) x h).0

page-apart : (n : ℕ) (t : Tree) (x y : Located) → Rise (offsets_of (elem t.head t.children none)) → Contains (page_marked n t) x → Contains (page_marked n t) y
    → offset_of x ≡ offset_of y → x ≡ y
page-apart n t x y up h k e =
    let a = page_marked-on n t x h in
    let b = page_marked-on n t y k in
    let numbers : x.page ≡ y.page = a.0 ∙ sym b.0 in
    let same : x.placed ≡ y.placed = rise-one offset_at (elements_of t) x.placed y.placed (subst Rise (sym (offsets-elements t)) up) a.1 b.1 e in
    λ i. on_page (numbers i) (same i)

-- the pages are numbered from here on
pub marked_from-numbered : (n : ℕ) (pages : List Paged) (x : Located) → Contains (marked_from n pages) x → (n ≤ x.page) × (x.page < n + length pages)
marked_from-numbered n [] x h = absurd (Contains-nil x h)
marked_from-numbered n (p ∷ pages) x h = ⊎_elim
    (λ k. let same : x.page ≡ n = (page_marked-on n p.tree x k).0 in (omega arith, omega arith))
    (λ k. let later = marked_from-numbered (suc n) pages x k in (omega arith, omega arith))
    (Contains-append_cases (page_marked n p.tree) (marked_from (suc n) pages) x h)

-- the page number of each marked element is below the number of pages
pub on_pages : (pages : List Paged) → All (λ e. e.page < length pages) (marked pages)
on_pages pages =
    All-weaker (Contains (marked pages)) (λ e. e.page < length pages)
    (λ e h. let within = marked_from-numbered 0 pages e h in omega arith) (marked pages) (All-contains_itself (marked pages))

abbrev pub RisesOn : Paged → Type 0
RisesOn p = Rise (offsets_of (elem p.tree.head p.tree.children none))

-- an element of the first page, and one of the pages behind it
not-both : (n : ℕ) (p : Paged) (pages : List Paged) (x y : Located) → Contains (page_marked n p.tree) x → Contains (marked_from (suc n) pages) y → x.page ≡ y.page → ⊥
not-both n p pages x y h k e =
    let here : x.page ≡ n = (page_marked-on n p.tree x h).0 in
    let later = marked_from-numbered (suc n) pages y k in
    omega arith

marked_from-apart : (n : ℕ) (pages : List Paged) → All RisesOn pages → (x y : Located) → Contains (marked_from n pages) x → Contains (marked_from n pages) y
    → x.page ≡ y.page → offset_of x ≡ offset_of y → x ≡ y
marked_from-apart n [] up x y h k d e = absurd (Contains-nil x h)
marked_from-apart n (p ∷ pages) up x y h k d e =
    let here = page_marked n p.tree in
    let later = marked_from (suc n) pages in
    ⊎_elim
    (λ a. ⊎_elim
    (λ b. page-apart n p.tree x y (All-head RisesOn p pages up) a b e)
    (λ b. absurd (not-both n p pages x y a b d)) (Contains-append_cases here later y k))
    (λ a. ⊎_elim
    (λ b. absurd (not-both n p pages y x b a (sym d)))
    (λ b. marked_from-apart (suc n) pages (All-tail RisesOn p pages up) x y a b d e) (Contains-append_cases here later y k))
    (Contains-append_cases here later x h)

-- no two marked elements stand at one place
pub apart : (pages : List Paged) → All (λ p. IsSoundTree p.tree DEEPEST_ELEMENT) pages → (x y : Located) → Contains (marked pages) x → Contains (marked pages) y
    → same_place x y ≡ true → x ≡ y
apart pages sound x y h k e =
    let both = and_parts _ _ e in
    marked_from-apart 0 pages (All-weaker (λ p. IsSoundTree p.tree DEEPEST_ELEMENT) RisesOn (λ p s. s.offsets) pages sound) x y h k
    (eqb-true x.page y.page both.0) (eqb-true (offset_of x) (offset_of y) both.1)
