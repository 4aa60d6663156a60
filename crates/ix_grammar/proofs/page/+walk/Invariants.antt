use Rattle.std.proofs.Common.{◌≡◌, ◌++◌, ◌≤◌, length, drop}
use Rattle.ix_base.specs.Elements.{path_above, path_of, placed}
use Rattle.ix_base.specs.Trees.{tree_of, nodes_of}
use Rattle.ix_grammar.specs.Additions.{found_from, found_below}
use Rattle.ix_grammar.proofs.page.+walk.Given as goal

-- what is done, and what the nodes from here on break, is what is due; nothing was taken away
abbrev pub invariant-loop-node : goal.invariant-loop-node
invariant-loop-node l = record {
  due : l.breaches ++ found_below l.page (path_of (placed l.spot)) (nodes_of (drop l.node-index l.node-items))
      ≡ l.fn.breaches ++ found_from l.page (path_above l.up) (tree_of l.element);
  kept : length l.fn.breaches ≤ length l.breaches;
}
