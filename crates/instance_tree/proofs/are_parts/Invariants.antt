use Rattle.std.proofs.Common.{◌≡◌, drop}
use Rattle.ix_base.specs.Trees.{nodes_of}
use Rattle.instance_out.specs.Denotation as denotation
use Rattle.instance_tree.proofs.are_parts.Given as goal

abbrev pub invariant-loop-node : goal.invariant-loop-node
invariant-loop-node l = denotation.are_parts (nodes_of (drop l.node-index l.nodes)) ≡ denotation.are_parts (nodes_of l.nodes)
