use Rattle.std.proofs.Common.{◌≡◌, ◌∙◌, ◌+◌, ◌<◌, ◌∷◌, ap, sym, cond, codes, drop, get_or, length, rules, ℕ, List, Some}
use Rattle.std.proofs.lemmas.List.{drop_more}
use Rattle.std.specs.Borrow.{Bor}
use Rattle.std.specs.Prelude.{unwrap_or}
use Rattle.ix_base.specs.declared.tree.Element.{Element}
use Rattle.ix_base.specs.declared.tree.Node.{Node, the_lemmas}
use Rattle.ix_base.specs.declared.tree.Node.TheVariants.{Chars, Elem}
use Rattle.ix_base.specs.ElementContent.{is_of}
use Rattle.ix_base.specs.Namespaces.{ix_namespace}
use Rattle.ix_base.specs.Trees.{Nodes, before, named, nodes_of, tree_of}
use Rattle.facts.specs.NumberValue.{nested_in, nested_text, number_text, own_text}
use Rattle.facts.proofs.number.+innermost.Goals as goal

-- past a text

chars-in : (x : Bor (List ℕ)) (rest : Nodes) → nested_in (before (Chars x) rest) ≡ nested_in rest
chars-in x rest = search (rules, the_lemmas)

chars-text : (x : Bor (List ℕ)) (rest : Nodes) → nested_text (before (Chars x) rest) ≡ nested_text rest
chars-text x rest = search (rules, the_lemmas)

-- at an element

elem-in : (e : Bor Element) (rest : Nodes) → nested_in (before (Elem e) rest)
    ≡ cond (is_of (named e.now.name.now) ix_namespace (codes "nonFraction")) (Some (unwrap_or (nested_in (tree_of e.now).children) (tree_of e.now))) (nested_in rest)
elem-in e rest = search (rules, the_lemmas)

elem-text : (e : Bor Element) (rest : Nodes) → nested_text (before (Elem e) rest)
    ≡ cond (is_of (named e.now.name.now) ix_namespace (codes "nonFraction")) (Some (number_text (tree_of e.now).children)) (nested_text rest)
elem-text e rest = search (rules, the_lemmas)

-- what is found from a node on
from-here : {A : Type 0} (f : Nodes → A) (nodes : List Node) (i : ℕ) (n m : Node) → i < length nodes → n ≡ get_or nodes i n → n ≡ m
    → f (nodes_of (drop i nodes)) ≡ f (before m (nodes_of (drop (i + 1) nodes)))
from-here f nodes i n m there is e =
    ap (λ ns. f (nodes_of ns)) (drop_more nodes i n there ∙ ap (λ k. k ∷ drop (i + 1) nodes) (sym is ∙ e))

pub loop-node-preserved-in_default : goal.loop-node-preserved-in_default
loop-node-preserved-in_default t c =
    let nodes = c.args.e.now.children.now in
    let i = c.loop-node.node-index in
    let x = c.in_default.field-0 in record {
      tree = sym (from-here nested_in nodes i c.node-item.result _ c.loop-node-test.true c.node-item.is c.in_default.is ∙ chars-in x _) ∙ c.loop-node.invariant.tree;
      text = sym (from-here nested_text nodes i c.node-item.result _ c.loop-node-test.true c.node-item.is c.in_default.is ∙ chars-text x _) ∙ c.loop-node.invariant.text;
    }

pub loop-node-preserved : goal.loop-node-preserved
loop-node-preserved t c =
    let nodes = c.args.e.now.children.now in
    let i = c.loop-node.node-index in
    let rest = nodes_of (drop (i + 1) nodes) in
    let e = c.in-Elem.below in record {
      tree = ap (λ b. cond b (Some (unwrap_or (nested_in (tree_of e.now).children) (tree_of e.now))) (nested_in rest)) c.if-is_number.ensures
          ∙ sym (from-here nested_in nodes i c.node-item.result _ c.loop-node-test.true c.node-item.is c.in-Elem.is ∙ elem-in e rest) ∙ c.loop-node.invariant.tree;
      text = ap (λ b. cond b (Some (number_text (tree_of e.now).children)) (nested_text rest)) c.if-is_number.ensures
          ∙ sym (from-here nested_text nodes i c.node-item.result _ c.loop-node-test.true c.node-item.is c.in-Elem.is ∙ elem-text e rest) ∙ c.loop-node.invariant.text;
    }

pub returns-then-is_number : goal.returns-then-is_number
returns-then-is_number t c =
    let nodes = c.args.e.now.children.now in
    let whole = tree_of c.args.e.now in
    let i = c.loop-node.node-index in
    let rest = nodes_of (drop (i + 1) nodes) in
    let e = c.in-Elem.below in record {
      tree = c.innermost.ensures.tree ∙ ap (λ o. unwrap_or o whole)
          (ap (λ b. cond b (Some (unwrap_or (nested_in (tree_of e.now).children) (tree_of e.now))) (nested_in rest)) c.if-is_number.ensures
          ∙ sym (from-here nested_in nodes i c.node-item.result _ c.loop-node-test.true c.node-item.is c.in-Elem.is ∙ elem-in e rest) ∙ c.loop-node.invariant.tree);
      text = c.innermost.ensures.text ∙ ap (λ o. unwrap_or o (own_text whole.children))
          (ap (λ b. cond b (Some (number_text (tree_of e.now).children)) (nested_text rest)) c.if-is_number.ensures
          ∙ sym (from-here nested_text nodes i c.node-item.result _ c.loop-node-test.true c.node-item.is c.in-Elem.is ∙ elem-text e rest) ∙ c.loop-node.invariant.text);
    }
