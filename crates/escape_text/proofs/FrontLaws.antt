-- Plain texts, part by part.
use Rattle.std.proofs.Common.{◌≡◌, ◌∙◌, ◌++◌, ◌+◌, ℕ, suc, List, ◌∷◌, length, drop, ap, sym, append-nil, ◌<◌, map, get_or, add-one}
use Rattle.std.proofs.Math.Seq.{drop-cons}
use Rattle.std.specs.Borrow.{Bor}
use Rattle.ix_base.specs.declared.tree.Node.{Node}
use Rattle.ix_base.specs.declared.tree.Node.TheOpen.{Node-F}
use Rattle.ix_base.specs.declared.tree.Node.TheFolds.{fold_out-Node}
use Rattle.ix_base.specs.declared.tree.Spot.{Spot}
use Rattle.ix_base.specs.LocatedElements.{located}
use Rattle.ix_base.specs.Markup.{plain, plain_along, plain_by, manner}
use Rattle.ix_base.specs.Trees.{Nodes, none, Tree, before, nodes_of, node_step}

front : {X : Type 0} (xs : List X) (i : ℕ) (d : X) → i < length xs → d ≡ get_or xs i d → drop i xs ≡ d ∷ drop (i + 1) xs
front xs i d l e = drop-cons xs i d l ∙ ap (λ x. x ∷ drop (suc i) xs) (sym e) ∙ ap (λ k. d ∷ drop k xs) (sym (add-one i))

step-plain : (o : Node-F (Nodes → Nodes) Tree) (rest : Nodes) → plain (node_step o rest) ≡ plain (node_step o none) ++ plain rest
step-plain (Node-F.Elem e) rest = ap (λ x. x ++ plain rest) (sym (append-nil (plain_by (manner e.now.head.name) (plain e.now.children))))
step-plain (Node-F.Chars s) rest = ap (λ x. x ++ plain rest) (sym (append-nil s.now))

before-plain : (n : Node) (rest : Nodes) → plain (before n rest) ≡ plain (before n none) ++ plain rest
before-plain n rest = rw (fold_out-Node) (step-plain _ rest)

-- a node, and those after it
pub node-plain : (nodes : List Node) (i : ℕ) (d : Node) → i < length nodes → d ≡ get_or nodes i d
    → plain (nodes_of (drop i nodes)) ≡ plain (before d none) ++ plain (nodes_of (drop (i + 1) nodes))
node-plain nodes i d l e = ap (λ xs. plain (nodes_of xs)) (front nodes i d l e) ∙ before-plain d (nodes_of (drop (i + 1) nodes))

-- an element of a chain, and those after it
pub spot-plain : (chain : List (Bor Spot)) (i : ℕ) (s : Bor Spot) → i < length chain → s ≡ get_or chain i s
    → plain_along (map (λ t. located t.now) (drop i chain)) ≡ plain (located s.now).placed.tree.children ++ plain_along (map (λ t. located t.now) (drop (i + 1) chain))
spot-plain chain i s l e = ap (λ xs. plain_along (map (λ (t : Bor Spot). located t.now) xs)) (front chain i s l e)
