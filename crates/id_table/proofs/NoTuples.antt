-- Elements of pages of which none is a tuple: no tuple owns one of them.
use Rattle.std.proofs.Common.{◌≡◌, ◌∙◌, ◌++◌, ◌∷◌, [], ◌||◌, ap, refl, sym, subst, cond, true, false, true≢false, not, ℕ, List, Bool, map, Option, Some, None, is_some}
use Rattle.std.proofs.lemmas.Bool.{or_from, or_parts}
use Rattle.std.proofs.lemmas.List.{map-append}
use Rattle.std.proofs.lemmas.List.Folds.{list_any-append}
use Rattle.std.proofs.lemmas.List.Elements.{All-append, All-cons, All-filter, All-head, All-nil, All-tail}
use Rattle.std.specs.Borrow.{Bor}
use Rattle.std.specs.List.{All, filter, list_any}
use Rattle.ix_base.specs.declared.kind.Kind.{Kind}
use Rattle.ix_base.specs.declared.kind.Kind.TheVariants as kind
use Rattle.ix_base.specs.declared.tree.Spot.{Spot}
use Rattle.ix_base.specs.Asks.{Asks, asks}
use Rattle.ix_base.specs.Elements.{below, elements_of, placed_at, tree_at}
use Rattle.ix_base.specs.Kinds.{kind_of, same_kind}
use Rattle.ix_base.specs.LocatedElements.{Located, is_marked, is_tuple, on_page, page_marked}
use Rattle.ix_base.specs.Membership.{nearest_tuple, owner, owner_by, tuple_ref_of}
use Rattle.ix_base.specs.Trees.{Nodes, Tree, chars, elem, none}
use Rattle.id_table.specs.Model.{AreUnowned, is_of_tuples}
use Rattle.id_table.specs.Tables.{AreClosed, all_located}

-- no tuple stands around the element
abbrev StandsAlone : Located → Type 0
StandsAlone e = nearest_tuple e.page e.placed.above ≡ None

marked-kind : (k : Kind) → not (same_kind k kind.Other) ≡ false → same_kind k kind.Tuple ≡ false
marked-kind kind.Tuple h = absurd (let z : true ≡ false = h in cc)
marked-kind k h = refl

unmarked-tuple : (e : Located) → is_marked e ≡ false → is_tuple e ≡ false
unmarked-tuple e h = marked-kind (kind_of e.placed) h

-- where no marked one is a tuple, none is
marked-tuples : (es : List Located) → list_any is_tuple (filter is_marked es) ≡ false → list_any is_tuple es ≡ false
marked-tuples [] h = refl
marked-tuples (e ∷ es) h = by (λ k. marked-tuples es k) (is_marked e) refl h where
  by : (list_any is_tuple (filter is_marked es) ≡ false → list_any is_tuple es ≡ false) → (b : Bool) → is_marked e ≡ b
      → list_any is_tuple (cond b (e ∷ filter is_marked es) (filter is_marked es)) ≡ false → (is_tuple e || list_any is_tuple es) ≡ false
  by later true g k =
      let parts = or_parts (is_tuple e) (list_any is_tuple (filter is_marked es)) k in
      or_from (is_tuple e) (list_any is_tuple es) parts.0 (later parts.1)
  by later false g k = or_from (is_tuple e) (list_any is_tuple es) (unmarked-tuple e g) (later k)

-- what stands right below an element that is no tuple and around which none stands
nearest-step : (n : ℕ) (t : Tree) (above : List Tree) → is_tuple (on_page n (placed_at t above)) ≡ false → nearest_tuple n above ≡ None
    → nearest_tuple n (t ∷ above) ≡ None
nearest-step n t above h k = ap (λ b. cond b (Some (on_page n (placed_at t above))) (nearest_tuple n above)) h ∙ k

alone-below : (n : ℕ) (above : List Tree) (ns : Nodes) → nearest_tuple n above ≡ None
    → list_any is_tuple (map (on_page n) (below above ns)) ≡ false → All StandsAlone (map (on_page n) (below above ns))
alone-below n above none h k = All-nil StandsAlone
alone-below n above (chars text rest) h k = alone-below n above rest h k
alone-below n above (elem head children rest) h k =
    let t = tree_at head children in
    let inner = below (t ∷ above) children in
    let later = below above rest in
    let here = on_page n (placed_at t above) in
    let parts = or_parts (is_tuple here) (list_any is_tuple (map (on_page n) (inner ++ later))) k in
    let both = or_parts (list_any is_tuple (map (on_page n) inner)) (list_any is_tuple (map (on_page n) later))
    (sym (ap (list_any is_tuple) (map-append (on_page n) inner later) ∙ list_any-append is_tuple (map (on_page n) inner) (map (on_page n) later)) ∙ parts.1) in
    All-cons StandsAlone here (map (on_page n) (inner ++ later)) h
    (subst (All StandsAlone) (sym (map-append (on_page n) inner later))
    (All-append StandsAlone (map (on_page n) inner) (map (on_page n) later)
    (alone-below n (t ∷ above) children (nearest-step n t above parts.0 h) both.0) (alone-below n above rest h both.1)))

page-closed : (n : ℕ) (t : Tree) → AreClosed (page_marked n t)
page-closed n t h =
    let inner = map (on_page n) (below (t ∷ []) t.children) in
    let root = on_page n (placed_at t []) in
    let parts = or_parts (is_tuple root) (list_any is_tuple inner) (marked-tuples (map (on_page n) (elements_of t)) h) in
    All-filter is_marked StandsAlone (map (on_page n) (elements_of t))
    (All-cons StandsAlone root inner refl (alone-below n (t ∷ []) t.children (nearest-step n t [] parts.0 refl) parts.1))

-- with the marked elements of one more page
pub closed-more : (es now : List Located) (n : ℕ) (t : Tree) → now ≡ es ++ page_marked n t → AreClosed es → AreClosed now
closed-more es now n t is h = subst AreClosed (sym is) both where
  both : AreClosed (es ++ page_marked n t)
  both k =
      let parts = or_parts (list_any is_tuple es) (list_any is_tuple (page_marked n t)) (sym (list_any-append is_tuple es (page_marked n t)) ∙ k) in
      All-append StandsAlone es (page_marked n t) (h parts.0) (page-closed n t parts.1)

pub closed-none : (spots : List (Bor Spot)) → spots ≡ [] → AreClosed (all_located spots)
closed-none spots is = subst (λ (xs : List (Bor Spot)). AreClosed (all_located xs)) (sym is) (λ h. All-nil StandsAlone)

no-tuples : (es : List Located) → list_any is_of_tuples es ≡ false → list_any is_tuple es ≡ false
no-tuples [] h = refl
no-tuples (e ∷ es) h =
    let parts = or_parts (is_of_tuples e) (list_any is_of_tuples es) h in
    or_from (is_tuple e) (list_any is_tuple es) (or_parts (is_tuple e) (is_some (tuple_ref_of e)) parts.0).0 (no-tuples es parts.1)

none-is : {X : Type 0} (o : Option X) → is_some o ≡ false → o ≡ None
none-is None h = refl
none-is (Some x) h = absurd (true≢false h)

unowned-each : (a : Asks Located) (es : List Located) → list_any is_of_tuples es ≡ false → All StandsAlone es → All (λ e. owner a e ≡ None) es
unowned-each a [] h alone = All-nil (λ e. owner a e ≡ None)
unowned-each a (e ∷ es) h alone =
    let parts = or_parts (is_of_tuples e) (list_any is_of_tuples es) h in
    let ref = none-is (tuple_ref_of e) (or_parts (is_tuple e) (is_some (tuple_ref_of e)) parts.0).1 in
    All-cons (λ x. owner a x ≡ None) e es (ap (owner_by a e) ref ∙ All-head StandsAlone e es alone)
    (unowned-each a es parts.1 (All-tail StandsAlone e es alone))

pub unowned : (es : List Located) → AreClosed es → list_any is_of_tuples es ≡ false → AreUnowned es
unowned es closed h = unowned-each (asks es) es h (closed (no-tuples es h))
