use Rattle.std.proofs.Common.{◌≡◌, ◌∙◌, sym, ap, Some, true, drop, option_map, rules}
use Rattle.ix_base.specs.Facts.{before, facts_of}
use Rattle.ix_base.specs.ElementContent.{is_blank}
use Rattle.ix_base.specs.OwnNames.{own}
use Rattle.ix_base.specs.Trees.{none, nodes_of, tree_of}
use Rattle.instance_out.specs.Denotation.{facts_in}
use Rattle.instance_tree.specs.ReaderWords.{in_front}
use Rattle.instance_tree.proofs.FactSteps.{blank-step, fact-step, front-none, tuple-is}
use Rattle.instance_tree.proofs.NodeLaws.{chars-front, elem-front, name-is, none-left}
use Rattle.instance_tree.proofs.facts.+facts.Goals as goal
use Rattle.instance_tree.proofs.facts.+facts.Goals.{facts_in-in-Chars+else-not-is_blank, facts_in-in-Elem+in_ok-fact-in-Elem+in-Some+in_ok-push-in-Elem}

pub tuple_of-returns : goal.tuple_of-returns
tuple_of-returns t c = λ more.
    tuple-is _ (tree_of c.args.e.now) more (sym c.in_ok-members.ensures ∙ ap (option_map facts_of) c.in-Some.is)
    (c.in_ok-of.ensures ∙ ap own (name-is c.args.e.now)) (c.in_ok-of_some.ensures ∙ c.attr_of.ensures) c.is_nil.ensures

pub facts_in-returns : goal.facts_in-returns
facts_in-returns t c =
    let over : nodes_of (drop c.loop-node.node-index c.args.nodes.now) ≡ none = none-left c.args.nodes.now c.loop-node.node-index c.loop-node-test.false in
    ap Some (sym (front-none c.loop-node.facts)) ∙ sym (ap (λ ns. option_map (in_front c.loop-node.facts) (facts_in ns)) over) ∙ c.loop-node.invariant

pub facts_in-loop-node-preserved : goal.facts_in-loop-node-preserved
facts_in-loop-node-preserved t c = elim c.match-node.branch [
  | facts_in-in-Chars+else-not-is_blank w ↦
      (let blank : is_blank w.in-Chars.text.now ≡ true = search rules in
      blank-step c.loop-node.facts c.match-node.facts _ _ w.in-Chars.text.now
      (chars-front c.args.nodes.now c.loop-node.node-index c.node-item.result w.in-Chars.text c.loop-node-test.true c.node-item.is w.in-Chars.is) blank w.facts-is)
      ∙ c.loop-node.invariant
  | facts_in-in-Elem+in_ok-fact-in-Elem+in-Some+in_ok-push-in-Elem w ↦
      fact-step c.loop-node.facts c.match-node.facts w.in-Some.fact _ _ (tree_of w.in-Elem.e.now)
      (elem-front c.args.nodes.now c.loop-node.node-index c.node-item.result w.in-Elem.e c.loop-node-test.true c.node-item.is w.in-Elem.is)
      (λ more. ap (option_map (λ f. before f more)) (sym w.in-Some.is) ∙ w.in_ok-fact-in-Elem.ensures more)
      (w.facts-is ∙ w.in_ok-push-in-Elem.ensures.ok)
      ∙ c.loop-node.invariant
]
