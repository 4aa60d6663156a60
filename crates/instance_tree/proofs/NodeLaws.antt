-- Nodes and elements, one at a time.
use Rattle.std.proofs.Common.{◌≡◌, ◌∙◌, refl, ap, sym, ◌==◌, ◌+◌, ◌<◌, ◌≤◌, ℕ, suc, false, List, [], ◌∷◌, length, drop, drop-cons, get_or, arith, add-one, rules}
use Rattle.std.proofs.lemmas.Bool.Decides.{nat_tests}
use Rattle.std.proofs.lemmas.List.{drop_all}
use Rattle.std.specs.Borrow.{Bor}
use Rattle.ix_base.specs.declared.tree.Element.{Element}
use Rattle.ix_base.specs.declared.tree.Node.{Node, the_lemmas}
use Rattle.ix_base.specs.declared.tree.Node.TheOpen.{Node-F}
use Rattle.ix_base.specs.declared.tree.Node.TheFolds.{fold_out-Element, fold_out-Node}
use Rattle.ix_base.specs.declared.tree.Node.TheVariants.{Elem, Chars}
use Rattle.ix_base.specs.Trees.{Nodes, chars, elem, Tree, before, named, none, nodes_of, node_step, tree_of}

-- what an element is called and what it holds
pub name-is : (e : Element) → named e.name.now ≡ (tree_of e).head.name
name-is e = rw (fold_out-Element) refl

pub children_are : (e : Element) → nodes_of e.children.now ≡ (tree_of e).children
children_are e = rw (fold_out-Element) refl

-- the nodes from an index on
pub front : (ns : List Node) (i : ℕ) (n : Node) → i < length ns → n ≡ get_or ns i n → nodes_of (drop i ns) ≡ before n (nodes_of (drop (i + 1) ns))
front ns i n h e = ap nodes_of (drop-cons ns i n h ∙ ap (λ x. x ∷ drop (suc i) ns) (sym e) ∙ ap (λ k. n ∷ drop k ns) (sym (add-one i)))

before-chars : (s : Bor (List ℕ)) (rest : Nodes) → before (Chars s) rest ≡ chars s.now rest
before-chars s rest = search (rules, the_lemmas)

before-elem : (e : Bor Element) (rest : Nodes) → before (Elem e) rest ≡ elem (tree_of e.now).head (tree_of e.now).children rest
before-elem e rest = search (rules, the_lemmas)

pub chars-front : (ns : List Node) (i : ℕ) (n : Node) (s : Bor (List ℕ)) → i < length ns → n ≡ get_or ns i n → n ≡ Chars s
    → nodes_of (drop i ns) ≡ chars s.now (nodes_of (drop (i + 1) ns))
chars-front ns i n s h e v = front ns i n h e ∙ ap (λ x. before x (nodes_of (drop (i + 1) ns))) v ∙ before-chars s (nodes_of (drop (i + 1) ns))

pub elem-front : (ns : List Node) (i : ℕ) (n : Node) (e : Bor Element) → i < length ns → n ≡ get_or ns i n → n ≡ Elem e
    → nodes_of (drop i ns) ≡ elem (tree_of e.now).head (tree_of e.now).children (nodes_of (drop (i + 1) ns))
elem-front ns i n e h is v = front ns i n h is ∙ ap (λ x. before x (nodes_of (drop (i + 1) ns))) v ∙ before-elem e (nodes_of (drop (i + 1) ns))

pub none-left : (ns : List Node) (i : ℕ) → length ns ≤ i → nodes_of (drop i ns) ≡ none
none-left ns i h = ap nodes_of (drop_all i ns h)
