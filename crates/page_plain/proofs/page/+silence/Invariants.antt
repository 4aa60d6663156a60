use Rattle.std.proofs.Common.{◌≡◌, drop}
use Rattle.ix_base.specs.Trees.{nodes_of}
use Rattle.page_plain.specs.Parts.{is_silent}
use Rattle.page_plain.proofs.page.+silence.Given as goal

-- the nodes before here give nothing
abbrev pub invariant-are_silent-loop-node : goal.invariant-are_silent-loop-node
invariant-are_silent-loop-node l = is_silent (nodes_of (drop l.node-index l.nodes)) ≡ is_silent (nodes_of l.nodes)
