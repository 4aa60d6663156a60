use Rattle.std.proofs.Common.{drop}
use Rattle.ix_base.specs.Markup.{plain}
use Rattle.ix_base.specs.Trees.{nodes_of}
use Rattle.ix_base.proofs.FrontLemmas.{Grows}
use Rattle.escape_text.proofs.plain_text.+plain.Given as goal

-- the texts of the nodes before here are appended
abbrev pub invariant-push_plain-loop-node : goal.invariant-push_plain-loop-node
invariant-push_plain-loop-node l = Grows l.initial.text l.text (plain (nodes_of (drop l.node-index l.nodes))) (plain (nodes_of l.nodes))
