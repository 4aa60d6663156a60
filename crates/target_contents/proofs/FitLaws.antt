-- What stands of elements that break no rule of elements.
use Rattle.std.proofs.Common.{◌≡◌, ◌∙◌, ℕ, suc, Bool, true, false, not, List, [], ◌∷◌, ◌++◌, map, sym, subst, refl, Option, Some, None, ⊎_elim, option_map, codes, arith}
use Rattle.std.specs.List.{All, Contains, flat_map}
use Rattle.std.specs.Option.{option_map_or}
use Rattle.std.specs.Prelude.{◌&&◌, ◌||◌}
use Rattle.std.proofs.lemmas.List.Concat.{flat_map-cons}
use Rattle.std.proofs.lemmas.List.Elements.{All-contains_itself, All-weaker, Contains-append_cases}
use Rattle.ix_base.proofs.OnceLemmas.{Contains-cases, Contains-first, Contains-from_filter, Contains-later, Contains-nil}
use Rattle.ix_base.specs.declared.kind.Kind.{Kind}
use Rattle.ix_base.specs.declared.kind.Kind.TheVariants as kind
use Rattle.ix_base.specs.declared.rule.Rule.{Rule}
use Rattle.ix_base.specs.declared.rule.Rule.TheVariants as rule
use Rattle.ix_base.specs.ElementRules.{breaks, element_rules, found, found_on, lacks}
use Rattle.ix_base.specs.Elements.{Placed, elements_of}
use Rattle.ix_base.specs.Forms.{is_order}
use Rattle.ix_base.specs.Kinds as kinds
use Rattle.ix_base.specs.Kinds.{is_inline, kind_of}
use Rattle.ix_base.specs.LocatedElements.{Located, Paged, is_fact, is_marked, marked_from, on_page, page_marked}
use Rattle.ix_base.specs.Membership.{order_of}
use Rattle.ix_base.specs.Readers.{attr}
use Rattle.ix_base.specs.Rows.{row}
use Rattle.ix_base.specs.Token.{token_of}
use Rattle.ix_base.specs.Trees.{Tree}
use Rattle.tuples.specs.OrderNumbers.{fits, is_order_number}
use Rattle.target_contents.specs.Faults.{faults_from}

pub both-none : {X : Type 0} (xs ys : List X) → xs ++ ys ≡ [] → (xs ≡ []) × (ys ≡ [])
both-none [] ys h = (refl, h)
both-none (x ∷ xs) ys h = absurd (cc)

pub flat-none : {X Y : Type 0} (f : X → List Y) (xs : List X) → flat_map f xs ≡ [] → (x : X) → Contains xs x → f x ≡ []
flat-none f [] h x c = absurd (Contains-nil x c)
flat-none f (y ∷ xs) h x c =
    let both = both-none (f y) (flat_map f xs) (sym (flat_map-cons f y xs) ∙ h) in
    ⊎_elim (λ (e : y ≡ x). subst (λ z. f z ≡ []) e both.0) (λ later. flat-none f xs both.1 x later) (Contains-cases y xs x c)

pub row-none : {X : Type 0} (b : Bool) (x : X) → row b x ≡ [] → b ≡ false
row-none true x h = absurd (cc)
row-none false x h = refl

-- an element of a page is its number and one of the elements of its tree
pub of-map : (n : ℕ) (ps : List Placed) (e : Located) → Contains (map (on_page n) ps) e → (p : Placed) × Contains ps p × (e ≡ on_page n p)
of-map n [] e h = absurd (Contains-nil e h)
of-map n (p ∷ ps) e h =
    ⊎_elim (λ (s : on_page n p ≡ e). (p, Contains-first p ps, sym s))
    (λ later. let at = of-map n ps e later in (at.0, Contains-later p ps at.0 at.1, at.2)) (Contains-cases (on_page n p) (map (on_page n) ps) e h)

none-on : (n : ℕ) (t : Tree) → found_on n t ≡ [] → (p : Placed) → Contains (elements_of t) p → (r : Rule) → Contains element_rules r → breaks p r ≡ false
unfolding found
none-on n t h p at r which =
    row-none (breaks p r) _ (flat-none (λ (k : Rule). row (breaks p k) (record { place = record { page = n; offset = p.tree.head.offset }; rule = k })) element_rules
    (flat-none (λ (e : Placed). found (record { page = n; offset = e.tree.head.offset }) e) (elements_of t) h p at) r which)

-- no element of the pages breaks a rule of elements
pub none-broken : (n : ℕ) (pages : List Paged) → faults_from n pages ≡ [] → (e : Located) → Contains (marked_from n pages) e
    → (r : Rule) → Contains element_rules r → breaks e.placed r ≡ false
none-broken n [] h e at r which = absurd (Contains-nil e at)
none-broken n (p ∷ pages) h e at r which =
    let both = both-none (found_on n p.tree) (faults_from (suc n) pages) h in
    ⊎_elim
    (λ (here : Contains (page_marked n p.tree) e).
    let placed = of-map n (elements_of p.tree) e (Contains-from_filter is_marked (map (on_page n) (elements_of p.tree)) e here).0 in
    subst (λ (x : Located). breaks x.placed r ≡ false) (sym placed.2) (none-on n p.tree both.0 placed.0 placed.1 r which))
    (λ later. none-broken (suc n) pages both.1 e later r which)
    (Contains-append_cases (page_marked n p.tree) (marked_from (suc n) pages) e at)

pub fact-inline : (k : Kind) → kinds.is_fact k ≡ true → is_inline k ≡ true
fact-inline kind.NonFraction h = refl
fact-inline kind.NonNumeric h = refl
fact-inline kind.Fraction h = refl
fact-inline kind.Tuple h = refl
fact-inline k h = absurd (cc)

pub not-not : (b : Bool) → not b ≡ false → b ≡ true
not-not true h = refl
not-not false h = absurd (cc)

number-of : (value : Option (List ℕ)) → option_map_or (λ v. not (is_order v)) value false ≡ false → is_order_number (option_map token_of value) ≡ true
number-of None h = refl
number-of (Some v) h = not-not (is_order v) h

pub with-test : (b c : Bool) → b ≡ true → (b && c) ≡ false → c ≡ false
with-test true c h e = e
with-test false c h e = absurd (cc)

fits-by : (b : Bool) (o : Option (List ℕ)) → (b ≡ true → is_order_number o ≡ true) → (not b || is_order_number o) ≡ true
fits-by true o h = h refl
fits-by false o h = refl

fits-of : (e : Located) → breaks e.placed rule.N10 ≡ false → fits e ≡ true
fits-of e h =
    fits-by (is_fact e) (order_of e)
    (λ f. number-of (attr (codes "order") e.placed.tree)
    (with-test (is_inline (kind_of e.placed)) (lacks is_order e.placed.tree (codes "order")) (fact-inline (kind_of e.placed) f) h))

-- the orders of facts are numbers
pub all-fit : (pages : List Paged) → faults_from 0 pages ≡ [] → All (λ e. fits e ≡ true) (marked_from 0 pages)
all-fit pages h =
    All-weaker (Contains (marked_from 0 pages)) (λ (e : Located). fits e ≡ true)
    (λ e at. fits-of e (none-broken 0 pages h e at rule.N10 (9, omega arith, refl)))
    (marked_from 0 pages) (All-contains_itself (marked_from 0 pages))
