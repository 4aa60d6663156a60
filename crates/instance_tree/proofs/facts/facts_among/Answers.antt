use Rattle.std.proofs.Common.{◌≡◌, ◌∙◌, sym, ap, Some, true, false, drop, option_map, rules}
use Rattle.ix_base.specs.Facts.{before}
use Rattle.ix_base.specs.ElementContent.{is_blank}
use Rattle.ix_base.specs.Trees.{none, nodes_of, tree_of}
use Rattle.instance_out.specs.Denotation.{facts_among, facts_in, is_part}
use Rattle.instance_tree.specs.ReaderWords.{in_front}
use Rattle.instance_tree.proofs.FactSteps.{blank-among, fact-among, front-none}
use Rattle.instance_tree.proofs.NodeLaws.{chars-front, elem-front, name-is, none-left}
use Rattle.instance_tree.proofs.facts.facts_among.Goals as goal
use Rattle.instance_tree.proofs.facts.facts_among.Goals.{in-Chars+else-not-is_blank, in-Elem+else-is_part+in_ok-fact-in-Elem+in-Some+in_ok-push-in-Elem}

pub returns : goal.returns
returns c =
    let over : nodes_of (drop c.loop-node.node-index c.args.nodes.now) ≡ none = none-left c.args.nodes.now c.loop-node.node-index c.loop-node-test.false in
    ap Some (sym (front-none c.loop-node.facts)) ∙ sym (ap (λ ns. option_map (in_front c.loop-node.facts) (facts_in (facts_among ns))) over) ∙ c.loop-node.invariant

pub loop-node-preserved : goal.loop-node-preserved
loop-node-preserved c = elim c.match-node.branch [
  | in-Chars+else-not-is_blank w ↦
      (let blank : is_blank w.in-Chars.text.now ≡ true = search rules in
      blank-among c.loop-node.facts c.match-node.facts _ _ w.in-Chars.text.now
      (chars-front c.args.nodes.now c.loop-node.node-index c.node-item.result w.in-Chars.text c.loop-node-test.true c.node-item.is w.in-Chars.is) blank w.facts-is)
      ∙ c.loop-node.invariant
  | in-Elem+else-is_part+in_ok-fact-in-Elem+in-Some+in_ok-push-in-Elem w ↦
      (let fact : is_part (tree_of w.in-Elem.e.now).head.name ≡ false = ap is_part (sym (name-is w.in-Elem.e.now)) ∙ sym w.is_part.ensures ∙ w.if-is_part.false in
      fact-among c.loop-node.facts c.match-node.facts w.in-Some.fact _ _ (tree_of w.in-Elem.e.now)
      (elem-front c.args.nodes.now c.loop-node.node-index c.node-item.result w.in-Elem.e c.loop-node-test.true c.node-item.is w.in-Elem.is) fact
      (λ more. ap (option_map (λ f. before f more)) (sym w.in-Some.is) ∙ w.in_ok-fact-in-Elem.ensures more)
      (w.facts-is ∙ w.in_ok-push-in-Elem.ensures.ok))
      ∙ c.loop-node.invariant
]
