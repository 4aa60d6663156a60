use Rattle.std.proofs.Common.{◌≡◌, ◌++◌, drop}
use Rattle.ix_base.specs.Trees.{nodes_of}
use Rattle.fact_trace.specs.Spans.{left_out}
use Rattle.fact_trace.proofs.elements.+left_out.Given as goal

-- what is added and what is left are what is due
abbrev pub invariant-push_all_left_out-loop-node : goal.invariant-push_all_left_out-loop-node
invariant-push_all_left_out-loop-node l = l.offsets.items ++ left_out (nodes_of (drop l.node-index l.nodes)) ≡ l.initial.offsets.items ++ left_out (nodes_of l.nodes)
