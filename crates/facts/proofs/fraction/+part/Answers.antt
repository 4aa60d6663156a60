use Rattle.std.proofs.Common.{◌≡◌, ◌∙◌, ◌+◌, ◌<◌, ◌∷◌, ap, sym, drop, get_or, length, rules, ℕ, List}
use Rattle.std.proofs.lemmas.List.{drop_all, drop_more}
use Rattle.std.specs.Borrow.{Bor}
use Rattle.std.specs.Option.{option_or}
use Rattle.ix_base.specs.declared.tree.Element.{Element}
use Rattle.ix_base.specs.declared.tree.Node.{Node, the_lemmas}
use Rattle.ix_base.specs.declared.tree.Node.TheVariants.{Chars, Elem}
use Rattle.ix_base.specs.Trees.{Nodes, before, nodes_of, tree_of}
use Rattle.facts.specs.FractionValue.{part_at, part_in}
use Rattle.facts.proofs.fraction.+part.Goals as goal

past-chars : (local : List ℕ) (x : Bor (List ℕ)) (rest : Nodes) → part_in local (before (Chars x) rest) ≡ part_in local rest
past-chars local x rest = search (rules, the_lemmas)

past-elem : (local : List ℕ) (e : Bor Element) (rest : Nodes)
    → part_in local (before (Elem e) rest) ≡ option_or (part_at local (tree_of e.now)) (part_in local rest)
past-elem local e rest = search (rules, the_lemmas)

-- what is found from a node on
from-here : (local : List ℕ) (nodes : List Node) (i : ℕ) (n m : Node) → i < length nodes → n ≡ get_or nodes i n → n ≡ m
    → part_in local (nodes_of (drop i nodes)) ≡ part_in local (before m (nodes_of (drop (i + 1) nodes)))
from-here local nodes i n m there is e =
    ap (λ ns. part_in local (nodes_of ns)) (drop_more nodes i n there ∙ ap (λ k. k ∷ drop (i + 1) nodes) (sym is ∙ e))

pub part_in-loop-node-preserved-in_default : goal.part_in-loop-node-preserved-in_default
part_in-loop-node-preserved-in_default t c =
    sym (from-here c.args.local.now c.args.nodes.now c.loop-node.node-index c.node-item.result _ c.loop-node-test.true c.node-item.is c.in_default.is
    ∙ past-chars c.args.local.now c.in_default.field-0 _)
    ∙ c.loop-node.invariant

pub part_in-loop-node-preserved : goal.part_in-loop-node-preserved
part_in-loop-node-preserved t c =
    sym (from-here c.args.local.now c.args.nodes.now c.loop-node.node-index c.node-item.result _ c.loop-node-test.true c.node-item.is c.in-Elem.is
    ∙ past-elem c.args.local.now c.in-Elem.below _
    ∙ ap (λ o. option_or o (part_in c.args.local.now (nodes_of (drop (c.loop-node.node-index + 1) c.args.nodes.now)))) (sym c.in_default-part_at.ensures))
    ∙ c.loop-node.invariant

pub part_in-returns-in-Some : goal.part_in-returns-in-Some
part_in-returns-in-Some t c =
    ap (λ o. option_or o (part_in c.args.local.now (nodes_of (drop (c.loop-node.node-index + 1) c.args.nodes.now)))) c.in-Some.ensures
    ∙ sym (from-here c.args.local.now c.args.nodes.now c.loop-node.node-index c.node-item.result _ c.loop-node-test.true c.node-item.is c.in-Elem.is
    ∙ past-elem c.args.local.now c.in-Elem.below _)
    ∙ c.loop-node.invariant

pub part_in-returns : goal.part_in-returns
part_in-returns t c =
    sym (ap (λ ns. part_in c.args.local.now (nodes_of ns)) (drop_all c.loop-node.node-index c.args.nodes.now c.loop-node-test.false))
    ∙ c.loop-node.invariant
