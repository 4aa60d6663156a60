-- The innermost nonFraction says what the number of a nonFraction is read from.
use Rattle.std.proofs.Common.{◌≡◌, ◌∙◌, ⊎_elim, ℕ, zero, suc, ◌+◌, ◌<◌, Bool, true, false, ◌&&◌, not, List, [], ◌∷◌, ◌++◌, length, map, Option, Some, None, refl, sym, ap, subst, arith, append-nil, if◌then◌else◌, bytes_eq, codes}
use Rattle.std.specs.List.{Contains, flat_map}
use Rattle.std.specs.Option.{option_map_or}
use Rattle.std.specs.Prelude.{unwrap_or}
use Rattle.std.proofs.lemmas.Bool.{and_parts, or_cases, not-true}
use Rattle.std.proofs.lemmas.List.Elements.{Contains-append_left, Contains-append_right}
use Rattle.ix_base.specs.declared.kind.Kind.TheVariants as kind
use Rattle.ix_base.specs.declared.rule.Rule.TheVariants.{N15}
use Rattle.ix_base.specs.Asks.{asks}
use Rattle.ix_base.specs.ElementRules.{breaks_as, holds_number, is_number}
use Rattle.ix_base.specs.Forms.{is_empty}
use Rattle.ix_base.specs.Elements.{Placed, below, elements_of, placed_at, tree_at}
use Rattle.ix_base.specs.ElementContent.{are_blank, element_alone, elements_in, is_blank, is_of}
use Rattle.ix_base.specs.Kinds.{ix_rows, kind_of, same_kind}
use Rattle.ix_base.specs.LocatedElements.{Located, is_marked, marked_from, on_page, page_marked}
use Rattle.ix_base.specs.LocatedElements as located
use Rattle.ix_base.specs.Markup.{plain}
use Rattle.ix_base.specs.Namespaces.{ix_namespace}
use Rattle.ix_base.specs.Readers.{is_nil}
use Rattle.ix_base.specs.Trees.{Nodes, none, chars, elem, Tree}
use Rattle.ix_base.proofs.OnceLemmas.{Contains-cases, Contains-filter, Contains-first, Contains-later, Contains-nil}
use Rattle.facts.specs.NumberValue.{nested_in, nested_text, number_text, own_text}
use Rattle.page_constructs.proofs.SpanLaws.{bytes-one}
use Rattle.targets.proofs.UnbrokenLaws.{element-unbroken}
use Rattle.fact_trace.specs.Model.{AreNew}
use Rattle.fact_trace.specs.Spans.{Source, elements, paged, said_on, source_at, spans, text_elements_as}
use Rattle.fact_trace.specs.ValidPages.{BreakNoRule, HaveTrees, names_of}
use Rattle.fact_trace.proofs.SayingLaws.{items-say}
use Rattle.fact_trace.proofs.TextLaws.{element-stands, inside}
use Rattle.fact_trace.proofs.TracerLaws.{as_set, clean-of, have-trees}

-- Nodes without elements.

none-nested : (ns : Nodes) → is_empty (elements_in ns) ≡ true → nested_in ns ≡ None
none-nested none h = refl
none-nested (chars text rest) h = none-nested rest h
none-nested (elem head children rest) h = absurd (cc)

none-text : (ns : Nodes) → is_empty (elements_in ns) ≡ true → nested_text ns ≡ None
none-text none h = refl
none-text (chars text rest) h = none-text rest h
none-text (elem head children rest) h = absurd (cc)

own-plain : (ns : Nodes) → is_empty (elements_in ns) ≡ true → plain ns ≡ own_text ns
own-plain none h = refl
own-plain (chars text rest) h = ap (λ l. text ++ l) (own-plain rest h)
own-plain (elem head children rest) h = absurd (cc)

-- The element that stands alone.

abbrev innermost_of : Tree → Tree
innermost_of t = unwrap_or (nested_in t.children) t

alone-below : (ns : Nodes) (above : List Tree) (u : Tree) → element_alone ns ≡ Some u → Contains (below above ns) (placed_at u above)
alone-below none above u e = absurd (cc)
alone-below (chars text rest) above u e = by (is_blank text) e (alone-below rest above u) where
  by : (b : Bool) → (if b then element_alone rest else None) ≡ Some u → (element_alone rest ≡ Some u → Contains (below above rest) (placed_at u above)) → Contains (below above rest) (placed_at u above)
  by true f ih = ih f
  by false f ih = absurd (cc)
alone-below (elem head children rest) above u e = by (are_blank rest) e where
  by : (b : Bool) → (if b then Some (tree_at head children) else None) ≡ Some u → Contains (below above (elem head children rest)) (placed_at u above)
  by true f =
      (let s : tree_at head children ≡ u = cc in
      subst (λ (v : Tree). Contains (below above (elem head children rest)) (placed_at v above)) s
      (Contains-first (placed_at (tree_at head children) above) (below (tree_at head children ∷ above) children ++ below above rest)))
  by false f = absurd (cc)

-- a nonFraction in a page whose nonFractions hold what they may
record IsGood (root u : Tree) : Type 0 where
  path : List Tree
  there : Contains (elements_of root) (placed_at u path)
  number : is_number u ≡ true
  some : is_nil u ≡ false

abbrev HoldWell : Tree → Type 0
HoldWell root = (t : Tree) (path : List Tree) → Contains (elements_of root) (placed_at t path) → is_number t ≡ true → is_nil t ≡ false → holds_number t.children ≡ true

record IsNested (ns : Nodes) (u : Tree) : Type 0 where
  inner : nested_in ns ≡ Some (innermost_of u)
  text : nested_text ns ≡ Some (number_text u.children)
  says : plain (innermost_of u).children ≡ number_text u.children

-- what it says, by what it holds
says-own : (root t : Tree) (path : List Tree) → Contains (elements_of root) (placed_at t path) → holds_number t.children ≡ true
    → ((v : Tree) → element_alone t.children ≡ Some v → IsGood root v → IsNested t.children v) → plain (innermost_of t).children ≡ number_text t.children
says-own root t path there h ih = ⊎_elim empty (alone (element_alone t.children) refl)
    (or_cases (is_empty (elements_in t.children)) (option_map_or (λ u. is_number u && not (is_nil u)) (element_alone t.children) false) h)
  where
    empty : is_empty (elements_in t.children) ≡ true → plain (innermost_of t).children ≡ number_text t.children
    empty e =
        ap (λ o. plain (unwrap_or o t).children) (none-nested t.children e) ∙ own-plain t.children e
        ∙ sym (ap (λ o. unwrap_or o (own_text t.children)) (none-text t.children e))

    alone : (o : Option Tree) → element_alone t.children ≡ o → option_map_or (λ u. is_number u && not (is_nil u)) o false ≡ true → plain (innermost_of t).children ≡ number_text t.children
    alone None e k = absurd (cc)
    alone (Some v) e k =
        let z = and_parts (is_number v) (not (is_nil v)) k in
        let n = ih v e (record {
          path = t ∷ path;
          there = inside root t path (placed_at v (t ∷ path)) there (alone-below t.children (t ∷ path) v e);
          number = z.0;
          some = not-true (is_nil v) z.1;
        }) in
        ap (λ o. plain (unwrap_or o t).children) n.inner ∙ n.says ∙ sym (ap (λ o. unwrap_or o (own_text t.children)) n.text)

nested : (root : Tree) → HoldWell root → (ns : Nodes) (u : Tree) → element_alone ns ≡ Some u → IsGood root u → IsNested ns u
nested root w none u e g = absurd (cc)
nested root w (chars text rest) u e g = by (is_blank text) e (nested root w rest u) where
  by : (b : Bool) → (if b then element_alone rest else None) ≡ Some u → (element_alone rest ≡ Some u → IsGood root u → IsNested rest u) → IsNested (chars text rest) u
  by true f ih = (let n = ih f g in record { inner = n.inner; text = n.text; says = n.says })
  by false f ih = absurd (cc)
nested root w (elem head children rest) u e g = by (are_blank rest) e (λ v. nested root w children v) where
  own : Tree
  own = tree_at head children

  by : (b : Bool) → (if b then Some (tree_at head children) else None) ≡ Some u → ((v : Tree) → element_alone children ≡ Some v → IsGood root v → IsNested children v) → IsNested (elem head children rest) u
  by false f ih = absurd (cc)
  by true f ih =
      let s : u ≡ tree_at head children = (let z : tree_at head children ≡ u = cc in sym z) in
      let k : IsGood root (tree_at head children) = subst (IsGood root) s g in
      let n : is_of head.name ix_namespace (codes "nonFraction") ≡ true = k.number in
      subst (IsNested (elem head children rest)) (sym s) (record {
        inner = ap (λ b. if b then Some (unwrap_or (nested_in children) (tree_at head children)) else nested_in rest) n;
        text = ap (λ b. if b then Some (unwrap_or (nested_text children) (own_text children)) else nested_text rest) n;
        says = says-own root (tree_at head children) k.path k.there (w (tree_at head children) k.path k.there k.number k.some) ih;
      })

-- The rule on what nonFractions hold.

number-kind : (t : Tree) (path : List Tree) → is_number t ≡ true → kind_of (placed_at t path) ≡ kind.NonFraction
unfolding ix_rows
number-kind t path h =
    let z = and_parts (bytes_eq t.head.name.ns ix_namespace) (bytes_eq t.head.name.local (codes "nonFraction")) h in
    let l = bytes-one t.head.name.local (codes "nonFraction") z.1 in
    rw (z.0, l) refl

marked-there : (n m : ℕ) (ps : List Source) (p : Placed) → m < length ps → Contains (elements_of (source_at ps m).tree) p → is_marked (on_page (n + m) p) ≡ true
    → Contains (marked_from n (map paged ps)) (on_page (n + m) p)
marked-there n m [] p l h k = absurd (omega arith)
marked-there n zero (q ∷ ps) p l h k =
    let e : n + 0 ≡ n = omega arith in
    Contains-append_left (page_marked n q.tree) (marked_from (suc n) (map paged ps)) (on_page (n + 0) p)
    (Contains-filter is_marked (map (on_page n) (elements_of q.tree)) (on_page (n + 0) p) (subst (λ x. Contains (map (on_page n) (elements_of q.tree)) (on_page x p)) (sym e) (mapped (elements_of q.tree) h)) k)
  where
    mapped : (xs : List Placed) → Contains xs p → Contains (map (on_page n) xs) (on_page n p)
    mapped [] c = absurd (Contains-nil p c)
    mapped (x ∷ xs) c = ⊎_elim
        (λ e. subst (λ (y : Placed). Contains (map (on_page n) (x ∷ xs)) (on_page n y)) e (Contains-first (on_page n x) (map (on_page n) xs)))
        (λ c. Contains-later (on_page n x) (map (on_page n) xs) (on_page n p) (mapped xs c))
        (Contains-cases x xs p c)
marked-there n (suc m) (q ∷ ps) p l h k =
    let e : suc n + m ≡ n + suc m = omega arith in
    Contains-append_right (page_marked n q.tree) (marked_from (suc n) (map paged ps)) (on_page (n + suc m) p)
    (subst (λ x. Contains (marked_from (suc n) (map paged ps)) (on_page x p)) e
    (marked-there (suc n) m ps p (omega arith) h (subst (λ x. is_marked (on_page x p) ≡ true) (sym e) k)))

held-well : (b c : Bool) → (not b && not c) ≡ false → b ≡ false → c ≡ true
held-well b true h k = refl
held-well true false h k = absurd (cc)
held-well false false h k = absurd (cc)

pub numbers-say : (ps : List Source) → HaveTrees ps → AreNew (names_of ps) → BreakNoRule ps → (e : Located) → Contains (elements ps) e → located.is_nil e ≡ false
    → kind_of e.placed ≡ kind.NonFraction → flat_map (said_on ps) (spans ps e) ≡ number_text e.placed.tree.children
numbers-say ps h new u e k n c =
    let clean = clean-of ps (have-trees ps h) u in
    let s = element-stands ps e k in
    let root = (source_at ps e.page).tree in
    let t = e.placed.tree in
    let unbroken = λ (x : Located) (there : Contains (elements ps) x) (q : kind_of x.placed ≡ kind.NonFraction) (z : located.is_nil x ≡ false).
    held-well (is_nil x.placed.tree) (holds_number x.placed.tree.children)
    (sym (ap (λ y. breaks_as y x.placed N15) q) ∙ element-unbroken (as_set u.base ps) clean N15 (14, omega arith, refl) x there) z in
    let well : HoldWell root = λ (v : Tree) (path : List Tree) there number some.
    (let p = placed_at v path in
    let q = number-kind v path number in
    let zero : 0 + e.page ≡ e.page = omega arith in
    let is : is_marked (on_page (0 + e.page) p) ≡ true = subst (λ y. not (same_kind y kind.Other) ≡ true) (sym q) refl in
    let at : Contains (elements ps) (on_page e.page p) = subst (λ y. Contains (elements ps) (on_page y p)) zero (marked-there 0 e.page ps p s.within there is) in
    unbroken (on_page e.page p) at q some) in
    items-say ps h new e k n ∙ ap (λ x. flat_map (λ l. plain l.tree.children) (text_elements_as x (asks (elements ps)) e)) c
    ∙ append-nil (plain (innermost_of t).children)
    ∙ says-own root t e.placed.above s.there (unbroken e k c n) (λ v q g. nested root well t.children v q g)
