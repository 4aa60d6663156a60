use Rattle.std.proofs.Common.{◌≡◌, ◌++◌, drop}
use Rattle.ix_base.specs.Trees.{nodes_of}
use Rattle.facts.specs.NumberValue.{own_text}
use Rattle.facts.proofs.number.own_text.Given as goal

-- what is there, and the texts that are left
abbrev pub invariant-loop-node : goal.invariant-loop-node
invariant-loop-node l = l.text ++ own_text (nodes_of (drop l.node-index l.nodes)) ≡ own_text (nodes_of l.nodes)
