-- The elements of pages, and those whose text is an item's.
use Rattle.std.proofs.Common.{◌≡◌, ◌∙◌, ⊎_elim, ℕ, zero, suc, ◌+◌, ◌<◌, Bool, true, false, ◌||◌, List, [], ◌∷◌, ◌++◌, length, get_or, map, filter, All, Option, Some, None, refl, sym, ap, subst, arith, if◌then◌else◌, bytes_eq, codes}
use Rattle.std.specs.List.{Contains}
use Rattle.std.specs.Option.{is_some, option_or}
use Rattle.std.specs.Prelude.{unwrap_or}
use Rattle.ix_base.specs.declared.limits.TheConstants.{DEEPEST_ELEMENT}
use Rattle.std.proofs.lemmas.List.Elements.{All-append, All-contains_itself, All-cons, All-head, All-map, All-nil, All-tail, All-weaker, Contains-append_cases, Contains-append_left, Contains-append_right}
use Rattle.ix_base.specs.declared.kind.Kind.{Kind}
use Rattle.ix_base.specs.declared.kind.Kind.TheVariants as kind
use Rattle.ix_base.specs.Asks.{asks}
use Rattle.ix_base.specs.Chain.{chain}
use Rattle.ix_base.specs.Elements.{Placed, below, elements_of, placed_at, tree_at}
use Rattle.ix_base.specs.ElementContent.{is_of}
use Rattle.ix_base.specs.Kinds.{kind_of, same_kind}
use Rattle.ix_base.specs.LinkRules.{is_at}
use Rattle.continuations.specs.Model.{AreChainsOf, chain_at}
use Rattle.continuations.proofs.HeadLaws.{chain_at-start}
use Rattle.target_contents.specs.LinkedSets.{AreApart}
use Rattle.std.proofs.lemmas.Bool.{and_parts}
use Rattle.ix_base.specs.LocatedElements.{Located, is_marked, is_start, located, marked_from, offset_of, on_page, page_marked}
use Rattle.ix_base.specs.Namespaces.{ix_namespace}
use Rattle.ix_base.specs.Trees.{Nodes, none, chars, elem, Tree, nodes_of, tree_of}
use Rattle.ix_base.specs.declared.tree.Element.{Element}
use Rattle.ix_base.specs.declared.tree.Node.TheFolds.{fold_out-Element}
use Rattle.ix_base.specs.declared.tree.Spot.{Spot, out-Spot}
use Rattle.id_table.specs.Tables.{all_located}
use Rattle.std.specs.Borrow.{Bor}
use Rattle.target_contents.proofs.SaidLaws.{tree-at}
use Rattle.ix_base.proofs.OnceLemmas.{Contains-cases, Contains-first, Contains-later, Contains-nil}
use Rattle.facts.specs.FractionValue.{part_in}
use Rattle.facts.specs.NumberValue.{nested_in}
use Rattle.page_tree.specs.Page.{page}
use Rattle.fact_trace.specs.Model.{ArePagesFrom, IsText, sources_of}
use Rattle.fact_trace.specs.Spans.{Source, elements, lying_at, number_in, paged, part_of, source_at, text_elements, text_elements_as, there}
use Rattle.fact_trace.specs.Walks.{IsOfPage}
use Rattle.fact_trace.specs.declared.page.Page.{Page}
use Rattle.target_contents.proofs.ChainLaws.{all-chain}

-- The page of an element.

pub record IsOn (n : ℕ) (t : Tree) (x : Located) : Type 0 where
  pub number : x.page ≡ n
  pub there : Contains (elements_of t) x.placed

marked-on : (n : ℕ) (all ps : List Placed) (x : Located) → ((p : Placed) → Contains ps p → Contains all p) → Contains (filter is_marked (map (on_page n) ps)) x
    → (x.page ≡ n) × Contains all x.placed
marked-on n all [] x f h = absurd (Contains-nil x h)
marked-on n all (p ∷ ps) x f h = by (is_marked (on_page n p)) h (λ k. marked-on n all ps x (λ q m. f q (Contains-later p ps q m)) k) where
  by : (b : Bool) → Contains (if b then on_page n p ∷ filter is_marked (map (on_page n) ps) else filter is_marked (map (on_page n) ps)) x
      → (Contains (filter is_marked (map (on_page n) ps)) x → (x.page ≡ n) × Contains all x.placed) → (x.page ≡ n) × Contains all x.placed
  by true k rest =
      ⊎_elim (λ e. (sym (ap (λ y. y.page) e), subst (λ (y : Located). Contains all y.placed) e (f p (Contains-first p ps)))) rest
      (Contains-cases (on_page n p) (filter is_marked (map (on_page n) ps)) x k)
  by false k rest = rest k

record IsAmong (n : ℕ) (ps : List Source) (x : Located) : Type 0 where
  at : ℕ
  number : x.page ≡ n + at
  within : at < length ps
  there : Contains (elements_of (source_at ps at).tree) x.placed

among : (n : ℕ) (ps : List Source) (x : Located) → Contains (marked_from n (map paged ps)) x → IsAmong n ps x
among n [] x h = absurd (Contains-nil x h)
among n (p ∷ ps) x h = ⊎_elim
    (λ k.
    (let o = marked-on n (elements_of p.tree) (elements_of p.tree) x (λ q m. m) k in
    record { at = 0; number = o.0 ∙ (let z : n ≡ n + 0 = omega arith in z); within = omega arith; there = o.1 }))
    (λ k.
    (let o = among (suc n) ps x k in
    let w = o.within in
    record { at = suc o.at; number = o.number ∙ (let z : suc n + o.at ≡ n + suc o.at = omega arith in z); within = omega arith; there = o.there }))
    (Contains-append_cases (page_marked n p.tree) (marked_from (suc n) (map paged ps)) x h)

-- an element of pages stands on one of them
pub record Stands (ps : List Source) (x : Located) : Type 0 where
  pub within : x.page < length ps
  pub there : Contains (elements_of (source_at ps x.page).tree) x.placed

pub element-stands : (ps : List Source) (x : Located) → Contains (elements ps) x → Stands ps x
element-stands ps x h =
    let a = among 0 ps x h in
    let n : a.at ≡ x.page = (let z = a.number in (omega arith)) in
    record { within = subst (λ k. k < length ps) n a.within; there = subst (λ k. Contains (elements_of (source_at ps k).tree) x.placed) n a.there }

-- each page is of its tree
pub page-at : (m : ℕ) (pages : List Page) (n : ℕ) → ArePagesFrom m pages → n < length (sources_of pages)
    → page (source_at (sources_of pages) n).bytes DEEPEST_ELEMENT (source_at (sources_of pages) n).tree
page-at m [] n h l = absurd (omega arith)
page-at m (p ∷ pages) zero h l = h.0.0
page-at m (p ∷ pages) (suc n) h l = page-at (suc m) pages n h.1 (omega arith)

-- each is a page of its tree
abbrev pub ArePages : List Source → Type 0
ArePages ps = (n : ℕ) → n < length ps → page (source_at ps n).bytes DEEPEST_ELEMENT (source_at ps n).tree

text-in : (ps : List Source) (x : Located) → ArePages ps → Contains (elements ps) x → IsText ps (lying_at x)
text-in ps x h k =
    let s = element-stands ps x k in
    record {
      within = s.within;
      of_page = record { root = (source_at ps x.page).tree; above = x.placed.above; is = h x.page s.within; there = s.there };
    }

pub is-text : (pages : List Page) (x : Located) → ArePagesFrom 0 pages → Contains (elements (sources_of pages)) x → IsText (sources_of pages) (lying_at x)
is-text pages x h k = text-in (sources_of pages) x (λ n l. page-at 0 pages n h l) k

-- Elements in an element.

deeper : (ns : Nodes) (above ab : List Tree) (t : Tree) (x : Placed) → Contains (below above ns) (placed_at t ab) → Contains (below (t ∷ ab) t.children) x → Contains (below above ns) x
deeper none above ab t x h k = absurd (Contains-nil (placed_at t ab) h)
deeper (chars text rest) above ab t x h k = deeper rest above ab t x h k
deeper (elem head children rest) above ab t x h k =
    let own = tree_at head children in
    let inner = below (own ∷ above) children in
    let later = below above rest in
    let first = placed_at own above in
    ⊎_elim
    (λ e. Contains-later first (inner ++ later) x (Contains-append_left inner later x (subst (λ (p : Placed). Contains (below (p.tree ∷ p.above) p.tree.children) x) (sym e) k)))
    (λ m. Contains-later first (inner ++ later) x (⊎_elim
    (λ a. Contains-append_left inner later x (deeper children (own ∷ above) ab t x a k))
    (λ a. Contains-append_right inner later x (deeper rest above ab t x a k))
    (Contains-append_cases inner later (placed_at t ab) m)))
    (Contains-cases first (inner ++ later) (placed_at t ab) h)

pub inside : (root t : Tree) (ab : List Tree) (x : Placed) → Contains (elements_of root) (placed_at t ab) → Contains (below (t ∷ ab) t.children) x → Contains (elements_of root) x
inside root t ab x h k =
    let first = placed_at root [] in
    let rest = below (root ∷ []) root.children in
    ⊎_elim
    (λ e. Contains-later first rest x (subst (λ (p : Placed). Contains (below (p.tree ∷ p.above) p.tree.children) x) (sym e) k))
    (λ m. Contains-later first rest x (deeper root.children (root ∷ []) ab t x m k))
    (Contains-cases first rest (placed_at t ab) h)

pub record IsBelow (above : List Tree) (ns : Nodes) (t : Tree) : Type 0 where
  pub path : List Tree
  pub there : Contains (below above ns) (placed_at t path)

pub of-page-inside : (b : List ℕ) (t u : Tree) (h : IsOfPage b t) → IsBelow (t ∷ h.above) t.children u → IsOfPage b u
of-page-inside b t u h k = record { root = h.root; above = k.path; is = h.is; there = inside h.root t h.above (placed_at u k.path) h.there k.there }

nested-below : (ns : Nodes) (above : List Tree) (u : Tree) → nested_in ns ≡ Some u → IsBelow above ns u
nested-below none above u e = absurd (cc)
nested-below (chars text rest) above u e = (let z = nested-below rest above u e in record { path = z.path; there = z.there })
nested-below (elem head children rest) above u e =
    by (is_of head.name ix_namespace (codes "nonFraction")) e (nested-below children (own ∷ above) u) (nested-below rest above u)
  where
    own : Tree
    own = tree_at head children

    by : (b : Bool) → (if b then Some (unwrap_or (nested_in children) (tree_at head children)) else nested_in rest) ≡ Some u → (nested_in children ≡ Some u → IsBelow (tree_at head children ∷ above) children u)
        → (nested_in rest ≡ Some u → IsBelow above rest u) → IsBelow above (elem head children rest) u
    by false f ih jh =
        let z = jh f in
        record {
          path = z.path;
          there = Contains-later (placed_at (tree_at head children) above) (below (tree_at head children ∷ above) children ++ below above rest) (placed_at u z.path)
              (Contains-append_right (below (tree_at head children ∷ above) children) (below above rest) (placed_at u z.path) z.there);
        }
    by true f ih jh = inner (nested_in children) refl f where
      inner : (o : Option Tree) → nested_in children ≡ o → Some (unwrap_or o (tree_at head children)) ≡ Some u → IsBelow above (elem head children rest) u
      inner None g q =
          let s : tree_at head children ≡ u = cc in
          record {
            path = above;
            there = subst (λ (v : Tree). Contains (below above (elem head children rest)) (placed_at v above)) s
                (Contains-first (placed_at (tree_at head children) above) (below (tree_at head children ∷ above) children ++ below above rest));
          }
      inner (Some v) g q =
          let s : v ≡ u = cc in
          let z = ih (g ∙ ap Some s) in
          record {
            path = z.path;
            there = Contains-later (placed_at (tree_at head children) above) (below (tree_at head children ∷ above) children ++ below above rest) (placed_at u z.path)
                (Contains-append_left (below (tree_at head children ∷ above) children) (below above rest) (placed_at u z.path) z.there);
          }

part-below : (local : List ℕ) (ns : Nodes) (above : List Tree) (u : Tree) → part_in local ns ≡ Some u → IsBelow above ns u
part-below local none above u e = absurd (cc)
part-below local (chars text rest) above u e = (let z = part-below local rest above u e in record { path = z.path; there = z.there })
part-below local (elem head children rest) above u e =
    by (bytes_eq head.name.ns ix_namespace) (bytes_eq head.name.local local) (part_in local children) refl e
    (part-below local children (tree_at head children ∷ above) u) (part-below local rest above u)
  where
    later : IsBelow above rest u → IsBelow above (elem head children rest) u
    later z = record {
      path = z.path;
      there = Contains-later (placed_at (tree_at head children) above) (below (tree_at head children ∷ above) children ++ below above rest) (placed_at u z.path)
          (Contains-append_right (below (tree_at head children ∷ above) children) (below above rest) (placed_at u z.path) z.there);
    }

    by : (x y : Bool) (o : Option Tree) → part_in local children ≡ o
        → option_or (if x then (if y then Some (tree_at head children) else None) else o) (part_in local rest) ≡ Some u
        → (part_in local children ≡ Some u → IsBelow (tree_at head children ∷ above) children u) → (part_in local rest ≡ Some u → IsBelow above rest u) → IsBelow above (elem head children rest) u
    by true true o g q ih jh =
        let s : tree_at head children ≡ u = cc in
        record {
          path = above;
          there = subst (λ (v : Tree). Contains (below above (elem head children rest)) (placed_at v above)) s
              (Contains-first (placed_at (tree_at head children) above) (below (tree_at head children ∷ above) children ++ below above rest));
        }
    by true false o g q ih jh = later (jh q)
    by false y None g q ih jh = later (jh q)
    by false y (Some v) g q ih jh =
        let s : v ≡ u = cc in
        let z = ih (g ∙ ap Some s) in
        record {
          path = z.path;
          there = Contains-later (placed_at (tree_at head children) above) (below (tree_at head children ∷ above) children ++ below above rest) (placed_at u z.path)
              (Contains-append_left (below (tree_at head children ∷ above) children) (below above rest) (placed_at u z.path) z.there);
        }

-- the innermost nonFraction, and the parts of a fraction
pub is-number : (ps : List Source) (x : Located) → IsText ps (lying_at x) → IsText ps (number_in x)
is-number ps x h = by (nested_in x.placed.tree.children) refl where
  by : (o : Option Tree) → nested_in x.placed.tree.children ≡ o → IsText ps (record { page = x.page; tree = unwrap_or o x.placed.tree })
  by None e = h
  by (Some u) e = record { within = h.within; of_page = of-page-inside (source_at ps x.page).bytes x.placed.tree u h.of_page (nested-below x.placed.tree.children (x.placed.tree ∷ h.of_page.above) u e) }

pub are-parts : (ps : List Source) (local : List ℕ) (x : Located) → IsText ps (lying_at x) → All (IsText ps) (part_of local x)
are-parts ps local x h = by (part_in local x.placed.tree.children) refl where
  by : (o : Option Tree) → part_in local x.placed.tree.children ≡ o → All (IsText ps) (there x.page o)
  by None e = All-nil (IsText ps)
  by (Some u) e =
      All-cons (IsText ps) (record { page = x.page; tree = u }) []
      (record { within = h.within; of_page = of-page-inside (source_at ps x.page).bytes x.placed.tree u h.of_page (part-below local x.placed.tree.children (x.placed.tree ∷ h.of_page.above) u e) })
      (All-nil (IsText ps))

chain-in : (ps : List Source) (x : Located) → ArePages ps → Contains (elements ps) x → All (λ e. IsText ps (lying_at e)) (chain (asks (elements ps)) x)
chain-in ps x h k =
    let es = elements ps in
    all-chain (λ e. IsText ps (lying_at e)) es
    (All-weaker (Contains es) (λ e. IsText ps (lying_at e)) (λ e m. text-in ps e h m) es (All-contains_itself es)) x (text-in ps x h k)

pub chain-texts : (pages : List Page) (x : Located) → ArePagesFrom 0 pages → Contains (elements (sources_of pages)) x
    → All (λ e. IsText (sources_of pages) (lying_at e)) (chain (asks (elements (sources_of pages))) x)
chain-texts pages x h k = chain-in (sources_of pages) x (λ n l. page-at 0 pages n h l) k

-- the text elements of an item are elements of the pages
pub texts-of : (ps : List Source) (x : Located) → ArePages ps → Contains (elements ps) x → All (IsText ps) (text_elements (asks (elements ps)) x)
texts-of ps x h k = by (kind_of x.placed) where
  by : (c : Kind) → All (IsText ps) (text_elements_as c (asks (elements ps)) x)
  by kind.NonNumeric = All-map (IsText ps) lying_at (chain (asks (elements ps)) x) (chain-in ps x h k)
  by kind.Fraction =
      All-append (IsText ps) (part_of (codes "numerator") x) (part_of (codes "denominator") x) (are-parts ps (codes "numerator") x (text-in ps x h k)) (are-parts ps (codes "denominator") x (text-in ps x h k))
  by c = All-cons (IsText ps) (number_in x) [] (is-number ps x (text-in ps x h k)) (All-nil (IsText ps))

-- The code's elements.

pub part-is : (ps : List Source) (local : List ℕ) (x : Located) (u : Tree) → part_in local x.placed.tree.children ≡ Some u → All (IsText ps) (part_of local x)
    → IsText ps (record { page = x.page; tree = u })
part-is ps local x u e h = All-head (IsText ps) (record { page = x.page; tree = u }) [] (subst (λ o. All (IsText ps) (there x.page o)) e h)

pub children-at : (s : Spot) → nodes_of (out-Spot s).element.now.children.now ≡ (located s).placed.tree.children
children-at s = children-are (out-Spot s).element.now ∙ sym (ap (λ t. t.children) (tree-at s)) where
  children-are : (e : Element) → nodes_of e.children.now ≡ (tree_of e).children
  children-are e = rw (fold_out-Element) refl

pub item-text : (P : Located → Type 0) (spots : List (Bor Spot)) (i : ℕ) (s : Bor Spot) → i < length spots → s ≡ get_or spots i s → All P (all_located spots) → P (located s.now)
item-text P [] i s l e h = absurd (omega arith)
item-text P (x ∷ spots) zero s l e h = subst (λ (y : Bor Spot). P (located y.now)) (sym e) (All-head P (located x.now) (all_located spots) h)
item-text P (x ∷ spots) (suc i) s l e h = item-text P spots i s (omega arith) e (All-tail P (located x.now) (all_located spots) h)

-- the chain that is kept of a nonNumeric
pub its-chain : (cs : List ((ℕ × ℕ) × List Located)) (es : List Located) (e : Located) → AreApart es → AreChainsOf cs es → Contains es e → kind.NonNumeric ≡ kind_of e.placed
    → chain_at cs e.page (offset_of e) ≡ Some (chain (asks es) e)
its-chain cs es e a c h k =
    chain_at-start cs es e c h (subst (λ x. (same_kind x kind.NonNumeric || same_kind x kind.Footnote) ≡ true) k refl)
    (λ x m at. sym (a e x h m (and_parts (is_start x) (is_at e.page (offset_of e) x) at).1))

pub has-chain : (cs : List ((ℕ × ℕ) × List Located)) (es : List Located) (e : Located) → AreApart es → AreChainsOf cs es → Contains es e → kind.NonNumeric ≡ kind_of e.placed
    → is_some (chain_at cs e.page (offset_of e)) ≡ true
has-chain cs es e a c h k = ap is_some (its-chain cs es e a c h k)

pub same-chain : (cs : List ((ℕ × ℕ) × List Located)) (es : List Located) (e : Located) (xs : List Located) → AreApart es → AreChainsOf cs es → Contains es e → kind.NonNumeric ≡ kind_of e.placed
    → chain_at cs e.page (offset_of e) ≡ Some xs → chain (asks es) e ≡ xs
same-chain cs es e xs a c h k f = (let z = its-chain cs es e a c h k in cc)
