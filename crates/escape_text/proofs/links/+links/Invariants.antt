use Rattle.std.proofs.Common.{◌≡◌, drop}
use Rattle.ix_base.specs.Trees.{nodes_of}
use Rattle.escape_text.specs.LinkPlaces.{has_links}
use Rattle.escape_text.proofs.links.+links.Given as goal

-- no link stands in the nodes before here
abbrev pub invariant-has_links-loop-node : goal.invariant-has_links-loop-node
invariant-has_links-loop-node l = has_links (nodes_of (drop l.node-index l.nodes)) ≡ has_links (nodes_of l.nodes)
