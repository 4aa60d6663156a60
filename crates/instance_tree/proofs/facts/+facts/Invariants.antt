use Rattle.std.proofs.Common.{◌≡◌, option_map, drop}
use Rattle.ix_base.specs.Trees.{nodes_of}
use Rattle.instance_out.specs.Denotation as denotation
use Rattle.instance_tree.specs.ReaderWords.{in_front}
use Rattle.instance_tree.proofs.facts.+facts.Given as goal

-- what was read in front of what is left is what is due
abbrev pub invariant-facts_in-loop-node : goal.invariant-facts_in-loop-node
invariant-facts_in-loop-node l =
    option_map (in_front l.facts) (denotation.facts_in (nodes_of (drop l.node-index l.nodes))) ≡ denotation.facts_in (nodes_of l.nodes)
