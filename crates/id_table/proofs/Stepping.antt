-- A walk over the elements of a page, one step at a time: what is walked and what is left are what is due.
use Rattle.std.proofs.Common.{◌≡◌, ◌∙◌, ◌++◌, ◌<◌, ◌≤◌, ◌+◌, ℕ, List, [], ◌∷◌, length, map, drop, get_or, refl, rules, sym, ap, append_assoc, append-nil}
use Rattle.std.proofs.lemmas.List.{drop_all, map-append}
use Rattle.std.proofs.lemmas.List.Elements.{filter-append}
use Rattle.std.specs.Borrow.{Bor}
use Rattle.std.specs.List.{filter, flat_map}
use Rattle.ix_base.specs.declared.tree.Element.{Element}
use Rattle.ix_base.specs.declared.tree.Node.{Node, the_lemmas}
use Rattle.ix_base.specs.declared.tree.Node.TheVariants.{Chars, Elem}
use Rattle.ix_base.specs.Elements.{Placed, below, elements_from, pages_in, pages_of, path_of, placed_at}
use Rattle.ix_base.specs.LocatedElements.{Located, is_marked, on_page}
use Rattle.ix_base.specs.Trees.{Nodes, Tree, before, chars, elem, nodes_of, tree_of}
use Rattle.id_table.specs.Tables.{marked_on}
use Rattle.id_table.proofs.RowLemmas.{front}

-- the page numbers of an element, and of an element among nodes
pub pages-Element : (e : Element) → pages_of e ≡ e.place.page ∷ flat_map (λ ps. ps) (map pages_in e.children.now)
pages-Element e = search (rules, the_lemmas)

pub pages-Elem : (e : Bor Element) → pages_in (Elem e) ≡ pages_of e.now
pages-Elem e = search (rules, the_lemmas)

children-is : (e : Element) → (tree_of e).children ≡ nodes_of e.children.now
children-is e = search (rules, the_lemmas)

before-chars : (text : Bor (List ℕ)) (rest : Nodes) → before (Chars text) rest ≡ chars text.now rest
before-chars text rest = search (rules, the_lemmas)

before-elem : (e : Bor Element) (rest : Nodes) → before (Elem e) rest ≡ elem (tree_of e.now).head (tree_of e.now).children rest
before-elem e rest = search (rules, the_lemmas)

gains : {X : Type 0} (old new part left from all : List X) → new ≡ old ++ part → from ≡ part ++ left → old ++ from ≡ all → new ++ left ≡ all
gains old new part left from all n f h = ap (λ x. x ++ left) n ∙ append_assoc old part left ∙ ap (λ x. old ++ x) (sym f) ∙ h

marked-append : (n : ℕ) (xs ys : List Placed) → marked_on n (xs ++ ys) ≡ marked_on n xs ++ marked_on n ys
marked-append n xs ys = ap (filter is_marked) (map-append (on_page n) xs ys) ∙ filter-append is_marked (map (on_page n) xs) (map (on_page n) ys)

pub elements-next : (n : ℕ) (path : List Tree) (nodes : List Node) (i : ℕ) (d : Node) (e : Bor Element) (old new all : List Located)
    → i < length nodes → d ≡ get_or nodes i d → d ≡ Elem e → e.now.place.page ≡ n → new ≡ old ++ marked_on e.now.place.page (elements_from path (tree_of e.now))
    → old ++ marked_on n (below path (nodes_of (drop i nodes))) ≡ all → new ++ marked_on n (below path (nodes_of (drop (i + 1) nodes))) ≡ all
elements-next n path nodes i d e old new all l is v at more h =
    let rest = nodes_of (drop (i + 1) nodes) in
    let here = elements_from path (tree_of e.now) in
    gains old new (marked_on n here) (marked_on n (below path rest)) (marked_on n (below path (nodes_of (drop i nodes)))) all
    (more ∙ ap (λ k. old ++ marked_on k here) at)
    (ap (λ ns. marked_on n (below path (nodes_of ns))) (front nodes i d l is) ∙ ap (λ x. marked_on n (below path (before x rest))) v
    ∙ ap (λ ns. marked_on n (below path ns)) (before-elem e rest) ∙ marked-append n here (below path rest)) h

-- a text is passed
pub elements-passed : (n : ℕ) (path : List Tree) (nodes : List Node) (i : ℕ) (d : Node) (text : Bor (List ℕ)) (walked all : List Located)
    → i < length nodes → d ≡ get_or nodes i d → d ≡ Chars text
    → walked ++ marked_on n (below path (nodes_of (drop i nodes))) ≡ all → walked ++ marked_on n (below path (nodes_of (drop (i + 1) nodes))) ≡ all
elements-passed n path nodes i d text walked all l is v h =
    let rest = nodes_of (drop (i + 1) nodes) in
    ap (λ xs. walked ++ marked_on n xs) (sym (ap (λ ns. below path (nodes_of ns)) (front nodes i d l is) ∙ ap (λ x. below path (before x rest)) v
    ∙ ap (below path) (before-chars text rest))) ∙ h

-- nothing is left
done : {X : Type 0} (f : List Node → List X) (nodes : List Node) (i : ℕ) (walked all : List X) → f [] ≡ [] → length nodes ≤ i
    → walked ++ f (drop i nodes) ≡ all → walked ≡ all
done f nodes i walked all none l h =
    sym (append-nil walked) ∙ ap (λ xs. walked ++ xs) (sym (ap f (drop_all i nodes l) ∙ none)) ∙ h

-- an element, and all below it
pub elements-whole : (n page : ℕ) (old begun walked : List Located) (x : Placed) (above : List Tree) (e : Element) (i : ℕ)
    → begun ≡ old ++ filter is_marked (on_page page x ∷ []) → page ≡ n → x ≡ placed_at (tree_of e) above → length e.children.now ≤ i
    → walked ++ marked_on n (below (path_of x) (nodes_of (drop i e.children.now))) ≡ begun ++ marked_on n (below (path_of x) (nodes_of e.children.now))
    → walked ≡ old ++ marked_on n (elements_from above (tree_of e))
elements-whole n page old begun walked x above e i here on at l h =
    let inner = below (path_of x) (nodes_of e.children.now) in
    done (λ ns. marked_on n (below (path_of x) (nodes_of ns))) e.children.now i walked (begun ++ marked_on n inner) refl l h
    ∙ ap (λ xs. xs ++ marked_on n inner) (here ∙ ap (λ k. old ++ marked_on k (x ∷ [])) on) ∙ append_assoc old (marked_on n (x ∷ [])) (marked_on n inner)
    ∙ ap (λ xs. old ++ xs) (sym (marked-append n (x ∷ []) inner))
    ∙ ap (λ p. old ++ marked_on n (p ∷ below (path_of p) (nodes_of e.children.now))) at
    ∙ ap (λ ns. old ++ marked_on n (placed_at (tree_of e) above ∷ below (tree_of e ∷ above) ns)) (sym (children-is e))
