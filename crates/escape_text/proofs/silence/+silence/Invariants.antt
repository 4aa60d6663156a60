use Rattle.std.proofs.Common.{◌≡◌, drop}
use Rattle.ix_base.specs.Markup.{is_silent}
use Rattle.ix_base.specs.Trees.{nodes_of}
use Rattle.escape_text.proofs.silence.+silence.Given as goal

-- the nodes before here give nothing
abbrev pub invariant-is_silent-loop-node : goal.invariant-is_silent-loop-node
invariant-is_silent-loop-node l = is_silent (nodes_of (drop l.node-index l.node-items)) ≡ is_silent (nodes_of l.node-items)
