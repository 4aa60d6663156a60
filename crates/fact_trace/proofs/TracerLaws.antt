-- What a tracer keeps, and what its pages say that break no rule.
use Rattle.ix_base.specs.declared.limits.TheConstants.{DEEPEST_ELEMENT}
use Rattle.std.proofs.Common.{◌≡◌, ◌∙◌, inl, inr, ⊎_elim, ℕ, suc, ◌+◌, Bool, false, List, [], ◌∷◌, ◌++◌, length, map, All, refl, sym, ap, subst, append_assoc, append-nil, arith, rules as std_rules}
use Rattle.std.specs.List.{Contains, flat_map}
use Rattle.std.proofs.lemmas.List.{map-append, length-map}
use Rattle.std.proofs.lemmas.List.Elements.{All-cons, All-head, All-nil, All-tail, Contains-push_cases}
use Rattle.ix_base.specs.declared.breach.Found.{Found}
use Rattle.ix_base.specs.declared.rule.Rule.{Rule}
use Rattle.ix_base.specs.declared.rule.Rule.TheVariants as rules
use Rattle.ix_base.specs.declared.tree.Element.{Element}
use Rattle.ix_base.specs.declared.tree.Node.{Node, the_lemmas}
use Rattle.std.proofs.lemmas.List.Folds.{flat_map-map}
use Rattle.ix_base.specs.Asks.{asks}
use Rattle.ix_base.specs.Elements.{pages_in, pages_of}
use Rattle.ix_base.specs.LinkRules.{breaking, breaks_link, found_at, link_rules}
use Rattle.ix_base.specs.LocatedElements.{Located, Paged, marked_from, page_marked}
use Rattle.ix_base.specs.Rows.{row}
use Rattle.ix_base.specs.Sound.{IsSoundTree}
use Rattle.ix_base.specs.Trees.{Tree, tree_of}
use Rattle.ix_base.proofs.OnceLemmas.{Contains-first, Contains-later, Contains-nil}
use Rattle.id_table.specs.Model.{Held as HeldIndex}
use Rattle.page_tree.specs.Page.{page}
use Rattle.page_tree.proofs.PageLaws.{one}
use Rattle.page_tree.proofs.SoundPages.{page-sound}
use Rattle.targets.specs.Breaches.{PagesComeTo}
use Rattle.targets.specs.ValidSets.{IsClean}
use Rattle.targets.specs.Forest.{AreTrees}
use Rattle.targets.specs.Forest as forest
use Rattle.target_contents.specs.PageSet.{PageSet}
use Rattle.target_contents.specs.PageSet as set
use Rattle.target_contents.specs.SetOutcomes.{ComesTo}
use Rattle.target_contents.specs.declared.outcome.Outcome.TheVariants.{Whole}
use Rattle.targets.proofs.UnbrokenLaws.{elements-apart, link-unbroken}
use Rattle.fact_trace.specs.Model.{AreNew, ArePagesFrom, Keeps, source_of, sources_of}
use Rattle.fact_trace.specs.Spans.{Source, elements, paged, traces}
use Rattle.fact_trace.specs.ValidPages.{BreakNoRule, HaveTrees, names_of}
use Rattle.fact_trace.proofs.RearrangedLaws.{rearranged}
use Rattle.target_contents.specs.LinkedSets.{AreApart}
use Rattle.std.specs.List.Sorted.{IsPermutation}
use Rattle.fact_trace.specs.declared.page.Page.{Page}
use Rattle.fact_trace.proofs.AgreeLaws.{Each}

-- One more page.

pages-push : (n : ℕ) (pages : List Page) (p : Page) → ArePagesFrom n pages → page p.bytes.now DEEPEST_ELEMENT (tree_of p.root.now) → All (λ k. k ≡ n + length pages) (pages_of p.root.now)
    → ArePagesFrom n (pages ++ p ∷ [])
pages-push n [] p h t a = ((t, subst (λ m. All (λ k. k ≡ m) (pages_of p.root.now)) (let e : n + 0 ≡ n = omega arith in e) a), tt)
pages-push n (q ∷ pages) p h t a = (h.0, pages-push (suc n) pages p h.1 t (subst (λ m. All (λ k. k ≡ m) (pages_of p.root.now)) (let e : n + suc (length pages) ≡ suc n + length pages = omega arith in e) a))

marked-push : (n : ℕ) (pages : List Paged) (p : Paged) → marked_from n (pages ++ p ∷ []) ≡ marked_from n pages ++ page_marked (n + length pages) p.tree
marked-push n [] p = append-nil (page_marked n p.tree) ∙ ap (λ k. page_marked k p.tree) (let e : n ≡ n + 0 = omega arith in e)
marked-push n (q ∷ pages) p =
    ap (λ xs. page_marked n q.tree ++ xs) (marked-push (suc n) pages p)
    ∙ sym (append_assoc (page_marked n q.tree) (marked_from (suc n) pages) (page_marked (suc n + length pages) p.tree))
    ∙ ap (λ k. (page_marked n q.tree ++ marked_from (suc n) pages) ++ page_marked k p.tree) (let e : suc n + length pages ≡ n + suc (length pages) = omega arith in e)

names-push : (ns : List (List ℕ)) (n : List ℕ) → AreNew ns → (Contains ns n → ⊥) → AreNew (ns ++ n ∷ [])
names-push [] n h f = (λ k. Contains-nil n k, tt)
names-push (m ∷ ns) n h f =
    (λ k. ⊎_elim h.0 (λ e. f (subst (λ x. Contains (m ∷ ns) x) (sym e) (Contains-first m ns))) (Contains-push_cases ns n m k), names-push ns n h.1 (λ k. f (Contains-later m ns n k)))

same-pages : (ns : List Node) → flat_map (λ pages. pages) (map pages_in ns) ≡ flat_map pages_in ns
same-pages ns = flat_map-map (λ pages. pages) pages_in ns

element-pages : (e : Element) → pages_of e ≡ e.place.page ∷ flat_map pages_in e.children.now
element-pages e = search (std_rules, the_lemmas, same-pages)

root-number : (e : Element) (n : ℕ) → All (λ k. k ≡ n) (pages_of e) → e.place.page ≡ n
root-number e n h = All-head (λ k. k ≡ n) e.place.page (flat_map pages_in e.children.now) (subst (All (λ k. k ≡ n)) (element-pages e) h)

pub keeps-more : (pages more : List Page) (p : Page) (old new : HeldIndex) → more ≡ pages ++ p ∷ [] → Keeps pages old
    → page p.bytes.now DEEPEST_ELEMENT (tree_of p.root.now) → All (λ k. k ≡ length (sources_of pages)) (pages_of p.root.now) → (Contains (map (λ s. s.name) (sources_of pages)) p.name → ⊥)
    → new ≡ record { spots = old.spots ++ page_marked p.root.now.place.page (tree_of p.root.now); choices = old.choices; is_spent = false }
    → Keeps more new
keeps-more pages more p old new m k t a f i =
    let long : length (sources_of pages) ≡ length pages = simp length-map in
    let number : p.root.now.place.page ≡ length pages = root-number p.root.now (length (sources_of pages)) a ∙ long in
    let all : sources_of more ≡ sources_of pages ++ source_of p ∷ [] = ap sources_of m ∙ map-append source_of pages (p ∷ []) in
    let count : length (map paged (sources_of pages)) ≡ length pages = simp length-map in
    record {
      spots = ap (λ h. h.spots) i ∙ ap (λ l. l ++ page_marked p.root.now.place.page (tree_of p.root.now)) k.spots
          ∙ ap (λ n. elements (sources_of pages) ++ page_marked n (tree_of p.root.now)) (number ∙ sym count)
          ∙ sym (marked-push 0 (map paged (sources_of pages)) (paged (source_of p)) ∙ ap (λ n. elements (sources_of pages) ++ page_marked n (tree_of p.root.now)) (let e : 0 + length (map paged (sources_of pages)) ≡ length (map paged (sources_of pages)) = omega arith in e))
          ∙ ap (marked_from 0) (sym (ap (map paged) all ∙ map-append paged (sources_of pages) (source_of p ∷ [])));
      unspent = ap (λ h. h.is_spent) i;
      pages_are = subst (ArePagesFrom 0) (sym m) (pages-push 0 pages p k.pages_are t (subst (λ n. All (λ x. x ≡ n) (pages_of p.root.now)) (long ∙ (let e : length pages ≡ 0 + length pages = omega arith in e)) a));
      names = subst AreNew (sym (ap (map (λ s. s.name)) all ∙ map-append (λ s. s.name) (sources_of pages) (source_of p ∷ []))) (names-push (map (λ s. s.name) (sources_of pages)) p.name k.names f);
    }

-- Pages that break no rule.

abbrev pub AreOfTrees : List Source → Type 0
AreOfTrees ps = Each (λ p. page p.bytes DEEPEST_ELEMENT p.tree) ps

pub of-trees : (n : ℕ) (pages : List Page) → ArePagesFrom n pages → AreOfTrees (sources_of pages)
of-trees n [] h = tt
of-trees n (p ∷ pages) h = (h.0.0, of-trees (suc n) pages h.1)

-- a set of pages with their trees, under this base
abbrev pub as_set : List ℕ → List Source → PageSet
as_set base ps = record { base = base; pages = map paged ps }

same-trees : (ps : List Source) (trees : List Tree) → AreOfTrees ps → AreTrees (map (λ p. p.bytes) ps) trees → forest.paged (map (λ p. p.name) ps) trees ≡ map paged ps
same-trees [] trees h t = refl
same-trees (p ∷ ps) [] h t = absurd t
same-trees (p ∷ ps) (t ∷ trees) h k =
    (λ i. record { name = p.name; tree = one p.bytes DEEPEST_ELEMENT t p.tree k.0 h.0 i } ∷ same-trees ps trees h.1 k.1 i)

all-sound : (ps : List Source) → AreOfTrees ps → All (λ p. IsSoundTree p.tree DEEPEST_ELEMENT) (map paged ps)
all-sound [] h = All-nil (λ (p : Paged). IsSoundTree p.tree DEEPEST_ELEMENT)
all-sound (p ∷ ps) h = All-cons (λ (q : Paged). IsSoundTree q.tree DEEPEST_ELEMENT) (paged p) (map paged ps) (page-sound p.bytes DEEPEST_ELEMENT p.tree h.0) (all-sound ps h.1)

pub whole-comes : (ps : List Source) → AreOfTrees ps → (u : BreakNoRule ps) → ComesTo (as_set u.base ps) (Whole u.targets)
whole-comes ps h u = by u.come where
  by : PagesComeTo u.base (map (λ p. p.name) ps) (map (λ p. p.bytes) ps) (Whole u.targets) → ComesTo (as_set u.base ps) (Whole u.targets)
  by (inl r) = absurd (r.2)
  by (inr (s, inl f)) = absurd (f.1)
  by (inr (s, inr t)) = subst (λ pages. ComesTo (record { base = u.base; pages = pages }) (Whole u.targets)) (same-trees ps t.0 h t.1) t.2

pub clean-of : (ps : List Source) → AreOfTrees ps → (u : BreakNoRule ps) → IsClean (as_set u.base ps)
clean-of ps h u = by (whole-comes ps h u) where
  by : ComesTo (as_set u.base ps) (Whole u.targets) → IsClean (as_set u.base ps)
  by (inl f) = absurd (f.1)
  by (inr (e, inl f)) = absurd (f.1)
  by (inr (e, inr (l, v))) = record { sound = all-sound ps h; elements = e; links = l }

none-broken : (p : Located → Bool) (f : Located → Found) (es : List Located) → ((e : Located) → Contains es e → p e ≡ false) → flat_map (λ e. row (p e) (f e)) es ≡ []
none-broken p f [] h = refl
none-broken p f (e ∷ es) h = rw (h e (Contains-first e es)) (none-broken p f es (λ x m. h x (Contains-later e es x m)))

pub unbroken-links : (s : PageSet) → IsClean s → breaking rules.L4 (set.elements s) ++ breaking rules.L5 (set.elements s) ++ breaking rules.L6 (set.elements s) ++ breaking rules.L7 (set.elements s) ≡ []
unbroken-links s c =
    let es = set.elements s in
    let none = λ (r : Rule) (k : Contains link_rules r) (q : (e : Located) → Contains es e → breaks_link (asks es) e r ≡ false). none-broken (λ e. breaks_link (asks es) e r) (λ e. found_at e r) es q in
    (λ i. none rules.L4 (3, omega arith, refl) (link-unbroken s c rules.L4 (3, omega arith, refl)) i ++ none rules.L5 (4, omega arith, refl) (link-unbroken s c rules.L5 (4, omega arith, refl)) i
    ++ none rules.L6 (5, omega arith, refl) (link-unbroken s c rules.L6 (5, omega arith, refl)) i ++ none rules.L7 (6, omega arith, refl) (link-unbroken s c rules.L7 (6, omega arith, refl)) i)

pub have-trees : (ps : List Source) → HaveTrees ps → AreOfTrees ps
have-trees [] h = tt
have-trees (p ∷ ps) h = (All-head (λ q. page q.bytes DEEPEST_ELEMENT q.tree) p ps h, have-trees ps (All-tail (λ q. page q.bytes DEEPEST_ELEMENT q.tree) p ps h))

pub are-apart : (ps : List Source) → AreOfTrees ps → BreakNoRule ps → AreApart (elements ps)
are-apart ps h u = elements-apart (as_set u.base ps) (clean-of ps h u)

pub in-any-order : (ps qs : List Source) → HaveTrees ps → AreNew (names_of ps) → BreakNoRule ps → IsPermutation ps qs → traces ps ≡ traces qs
in-any-order ps qs h n u m = rearranged ps qs n (are-apart ps (have-trees ps h) u) m
