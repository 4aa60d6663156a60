use Rattle.std.proofs.Common.{drop, ◌+◌}
use Rattle.std.proofs.lemmas.List.{drop_all}
use Rattle.std.proofs.Common.{ap}
use Rattle.ix_base.specs.Markup.{plain}
use Rattle.ix_base.specs.Trees.{nodes_of}
use Rattle.ix_base.proofs.FrontLemmas.{grows-more, grows-end, grows-front, on-err}
use Rattle.escape_text.proofs.FrontLaws.{node-plain}
use Rattle.escape_text.proofs.plain_text.+plain.Goals as goal

pub push_plain-returns-in_err-push_node-clause-err : goal.push_plain-returns-in_err-push_node-clause-err
push_plain-returns-in_err-push_node-clause-err t c = on-err _
    (grows-front c.args.text.now c.loop-node.text c.push_node.new.text _ _ (plain (nodes_of (drop (c.loop-node.node-index + 1) c.args.nodes.now))) _ c.loop-node.invariant
    (node-plain c.args.nodes.now c.loop-node.node-index c.node-item.result c.loop-node-test.true c.node-item.is) c.in_err-push_node.ensures.err)

pub push_plain-loop-node-preserved : goal.push_plain-loop-node-preserved
push_plain-loop-node-preserved t c =
    grows-more c.args.text.now c.loop-node.text c.push_node.new.text _ _ (plain (nodes_of (drop (c.loop-node.node-index + 1) c.args.nodes.now))) _ c.loop-node.invariant
    (node-plain c.args.nodes.now c.loop-node.node-index c.node-item.result c.loop-node-test.true c.node-item.is) c.in_ok-push_node.ensures.ok

pub push_plain-returns-clause-ok : goal.push_plain-returns-clause-ok
push_plain-returns-clause-ok t c = grows-end c.args.text.now c.loop-node.text _ _ c.loop-node.invariant
    (ap (λ xs. plain (nodes_of xs)) (drop_all c.loop-node.node-index c.args.nodes.now c.loop-node-test.false))
