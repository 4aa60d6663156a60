use Rattle.std.proofs.Common.{◌≡◌, drop}
use Rattle.ix_base.specs.Trees.{nodes_of, tree_of}
use Rattle.facts.specs.NumberValue.{nested_in, nested_text}
use Rattle.facts.proofs.number.+innermost.Given as goal

-- no nonFraction stands before here
abbrev pub invariant-loop-node : goal.invariant-loop-node
invariant-loop-node l = record {
  tree : nested_in (nodes_of (drop l.node-index l.node-items)) ≡ nested_in (tree_of l.e).children;
  text : nested_text (nodes_of (drop l.node-index l.node-items)) ≡ nested_text (tree_of l.e).children;
}
