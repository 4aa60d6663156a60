use Rattle.std.proofs.Common.{◌≡◌, ◌++◌, option_map, drop}
use Rattle.ix_base.specs.ElementContent.{named_in}
use Rattle.ix_base.specs.Steps.{each}
use Rattle.ix_base.specs.Trees.{nodes_of}
use Rattle.instance_tree.proofs.children.read_named.Given as goal

-- what was read and what is left are what is due
abbrev pub invariant-loop-node : goal.invariant-loop-node
invariant-loop-node g l =
    option_map (λ ps. l.parts ++ ps) (each (g.R.Reader.reads l.reader) (named_in l.ns l.local (nodes_of (drop l.node-index l.nodes))))
    ≡ each (g.R.Reader.reads l.reader) (named_in l.ns l.local (nodes_of l.nodes))
