-- What stands around a marked element is an element of its page. So the nearest tuple around it is marked too, and so is the
-- tuple that owns it.
use Rattle.std.proofs.Common.{◌≡◌, ◌∙◌, ap, sym, subst, refl, ℕ, suc, Bool, true, false, cond, List, [], ◌∷◌, ◌++◌, Option, Some, None, map, arith, ⊎_elim}
use Rattle.std.specs.Prelude.{not}
use Rattle.std.specs.List.{Contains, filter}
use Rattle.std.proofs.Math.ListN.{get_or-map}
use Rattle.std.proofs.lemmas.List.{length-map}
use Rattle.std.proofs.lemmas.List.Elements.{Contains-append_cases, Contains-append_left, Contains-append_right}
use Rattle.ix_base.specs.declared.kind.Kind.{Kind}
use Rattle.ix_base.specs.declared.kind.Kind.TheVariants as kind
use Rattle.ix_base.specs.Asks.{asks, only}
use Rattle.ix_base.specs.Elements.{Placed, below, elements_of, placed_at, tree_at}
use Rattle.ix_base.specs.Ids.{holds_tuple_id}
use Rattle.ix_base.specs.Kinds.{kind_of, same_kind}
use Rattle.ix_base.specs.LocatedElements.{Located, Paged, is_marked, is_tuple, marked, marked_from, on_page, page_marked}
use Rattle.ix_base.specs.Membership.{nearest_tuple, owner, owner_by, tuple_ref_of}
use Rattle.ix_base.specs.Trees.{Nodes, Tree, none, chars, elem}
use Rattle.ix_base.proofs.OnceLemmas.{Contains-cases, Contains-filter, Contains-first, Contains-from_filter, Contains-later, Contains-nil, Contains-same}
use Rattle.targets.proofs.PlaceLaws.{page_marked-on}

-- each of these elements, of which each stands below the next
abbrev AreAll : (Placed → Type 0) → List Tree → Type 0
AreAll P [] = Unit {0}
AreAll P (t ∷ above) = P (placed_at t above) × AreAll P above

-- what holds of elements holds of those around them
below-above : (P : Placed → Type 0) (above : List Tree) (ns : Nodes) (p : Placed) → AreAll P above → ((q : Placed) → Contains (below above ns) q → P q)
    → Contains (below above ns) p → AreAll P p.above
below-above P above none p stand all h = absurd (Contains-nil p h)
below-above P above (chars text rest) p stand all h = below-above P above rest p stand all h
below-above P above (elem head children rest) p stand all h =
    let t = tree_at head children in
    let here = placed_at t above in
    let inner = below (t ∷ above) children in
    let later = below above rest in
    ⊎_elim
    (λ e. subst (λ q. AreAll P q.above) e stand)
    (λ k. ⊎_elim
    (λ c. below-above P (t ∷ above) children p (all here (Contains-first here (inner ++ later)), stand)
    (λ q d. all q (Contains-later here (inner ++ later) q (Contains-append_left inner later q d))) c)
    (λ c. below-above P above rest p stand (λ q d. all q (Contains-later here (inner ++ later) q (Contains-append_right inner later q d))) c)
    (Contains-append_cases inner later p k))
    (Contains-cases here (inner ++ later) p h)

-- what stands around an element of a page is an element of it
elements-above : (t : Tree) (p : Placed) → Contains (elements_of t) p → AreAll (Contains (elements_of t)) p.above
elements-above t p h =
    let P = Contains (elements_of t) in
    let root = placed_at t [] in
    let inner = below (t ∷ []) t.children in
    ⊎_elim
    (λ e. subst (λ q. AreAll P q.above) e tt)
    (λ k. below-above P (t ∷ []) t.children p (Contains-first root inner, tt) (λ q d. Contains-later root inner q d) k)
    (Contains-cases root inner p h)

abbrev IsNearest : (Placed → Type 0) → ℕ → Located → Type 0
IsNearest P n o = (o.page ≡ n) × P o.placed × (is_tuple o ≡ true)

nearest-by : (P : Placed → Type 0) (n : ℕ) (here o : Located) (rest : Option Located) (b : Bool) → is_tuple here ≡ b → here.page ≡ n → P here.placed
    → (rest ≡ Some o → IsNearest P n o) → cond b (Some here) rest ≡ Some o → IsNearest P n o
nearest-by P n here o rest true k on stand later e = let same : here ≡ o = cc in subst (IsNearest P n) same (on, stand, k)
nearest-by P n here o rest false k on stand later e = later e

-- the nearest tuple is one of the elements around, on the same page
nearest-is : (P : Placed → Type 0) (n : ℕ) (above : List Tree) (o : Located) → AreAll P above → nearest_tuple n above ≡ Some o → IsNearest P n o
nearest-is P n [] o stand e = absurd (cc)
nearest-is P n (t ∷ above) o stand e =
    let here = on_page n (placed_at t above) in
    nearest-by P n here o (nearest_tuple n above) (is_tuple here) refl refl stand.0 (λ f. nearest-is P n above o stand.1 f) e

tuple-marked : (k : Kind) → same_kind k kind.Tuple ≡ true → not (same_kind k kind.Other) ≡ true
tuple-marked kind.Other h = absurd (cc)
tuple-marked k h = refl

Contains-map : {X Y : Type 0} (f : X → Y) (xs : List X) (x : X) → Contains xs x → Contains (map f xs) (f x)
Contains-map f xs x h = (h.0, (let l = length-map xs f in omega arith), get_or-map f xs h.0 x ∙ ap f h.2)

page-nearest : (n : ℕ) (t : Tree) (e o : Located) → Contains (page_marked n t) e → nearest_tuple e.page e.placed.above ≡ Some o → Contains (page_marked n t) o
page-nearest n t e o h k =
    let es = elements_of t in
    let on = page_marked-on n t e h in
    let found = nearest-is (Contains es) e.page e.placed.above o (elements-above t e.placed on.1) k in
    let numbered : n ≡ o.page = sym (found.0 ∙ on.0) in
    Contains-filter is_marked (map (on_page n) es) o
    (subst (λ m. Contains (map (on_page n) es) (on_page m o.placed)) numbered (Contains-map (on_page n) es o.placed found.1))
    (tuple-marked (kind_of o.placed) found.2)

marked_from-nearest : (n : ℕ) (pages : List Paged) (e o : Located) → Contains (marked_from n pages) e → nearest_tuple e.page e.placed.above ≡ Some o
    → Contains (marked_from n pages) o
marked_from-nearest n [] e o h k = absurd (Contains-nil e h)
marked_from-nearest n (p ∷ pages) e o h k =
    let here = page_marked n p.tree in
    let later = marked_from (suc n) pages in
    ⊎_elim
    (λ c. Contains-append_left here later o (page-nearest n p.tree e o c k))
    (λ c. Contains-append_right here later o (marked_from-nearest (suc n) pages e o c k))
    (Contains-append_cases here later e h)

-- the nearest tuple around a marked element is marked
pub nearest_marked : (pages : List Paged) (e o : Located) → Contains (marked pages) e → nearest_tuple e.page e.placed.above ≡ Some o → Contains (marked pages) o
nearest_marked pages e o h k = marked_from-nearest 0 pages e o h k

pub only-there : {X : Type 0} (xs : List X) (x : X) → only xs ≡ Some x → Contains xs x
only-there [] x e = absurd (cc)
only-there (y ∷ []) x e = Contains-same y [] x (cc)
only-there (y ∷ z ∷ rest) x e = absurd (cc)

owner-by : (pages : List Paged) (e o : Located) (ref : Option (List ℕ)) → Contains (marked pages) e → owner_by (asks (marked pages)) e ref ≡ Some o
    → Contains (marked pages) o
owner-by pages e o None h k = nearest_marked pages e o h k
owner-by pages e o (Some id) h k =
    (Contains-from_filter (holds_tuple_id id) (marked pages) o (only-there (filter (holds_tuple_id id) (marked pages)) o k)).0

-- the tuple that owns a marked element is marked
pub owner_marked : (pages : List Paged) (e o : Located) → Contains (marked pages) e → owner (asks (marked pages)) e ≡ Some o → Contains (marked pages) o
owner_marked pages e o h k = owner-by pages e o (tuple_ref_of e) h k
