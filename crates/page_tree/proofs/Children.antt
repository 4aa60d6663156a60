-- Children that are added at the end.
use Rattle.std.proofs.Common.{◌≡◌, ◌≢◌, ℕ, List, [], ◌∷◌, ◌++◌, refl, ap, ◌∙◌, rules}
use Rattle.std.specs.Borrow.{Bor}
use Rattle.ix_base.specs.Trees.{Nodes, none, chars, elem, Tree, before, nodes_of, node_step, tree_of}
use Rattle.ix_base.specs.declared.tree.Node.{Node, the_lemmas}
use Rattle.ix_base.specs.declared.tree.Node.TheOpen.{Node-F}
use Rattle.ix_base.specs.declared.tree.Node.TheVariants.{Elem, Chars}
use Rattle.ix_base.specs.declared.tree.Node.TheFolds.{fold_out-Node}
use Rattle.ix_base.specs.declared.tree.Element.{Element}
use Rattle.page_tree.specs.Machine.{append, flush}

pub before-Elem : (e : Bor Element) (rest : Nodes) → before (Elem e) rest ≡ elem (tree_of e.now).head (tree_of e.now).children rest
before-Elem e rest = search (rules, the_lemmas)

pub before-Chars : (s : Bor (List ℕ)) (rest : Nodes) → before (Chars s) rest ≡ chars s.now rest
before-Chars s rest = search (rules, the_lemmas)

step-append : (o : Node-F (Nodes → Nodes) Tree) (a b : Nodes) → node_step o (append a b) ≡ append (node_step o a) b
step-append (Node-F.Elem e) a b = refl
step-append (Node-F.Chars s) a b = refl

before-append : (n : Node) (a b : Nodes) → before n (append a b) ≡ append (before n a) b
before-append n a b = rw (fold_out-Node) (step-append _ a b)

pub nodes-snoc : (ns : List Node) (n : Node) → nodes_of (ns ++ n ∷ []) ≡ append (nodes_of ns) (before n none)
nodes-snoc [] n = refl
nodes-snoc (m ∷ ns) n = ap (before m) (nodes-snoc ns n) ∙ before-append m (nodes_of ns) (before n none)

pub flush-some : (d : Nodes) (s : List ℕ) → s ≢ [] → flush d s ≡ append d (chars s none)
flush-some d [] h = absurd (h refl)
flush-some d (c ∷ cs) h = refl

-- a text that is put behind some children
pub flush-push : (ns more : List Node) (t : Bor (List ℕ)) (s : List ℕ) → s ≢ [] → t.now ≡ s → more ≡ ns ++ Chars t ∷ [] → nodes_of more ≡ flush (nodes_of ns) s
flush-push ns more t s h e m =
    rw (m, nodes-snoc ns (Chars t), before-Chars t none, e, flush-some (nodes_of ns) s h) refl

pub child-push : (ns more : List Node) (e : Bor Element) (t : Tree) → tree_of e.now ≡ t → more ≡ ns ++ Elem e ∷ [] → nodes_of more ≡ append (nodes_of ns) (elem t.head t.children none)
child-push ns more e t s m =
    rw (m, nodes-snoc ns (Elem e), before-Elem e none, s) refl
