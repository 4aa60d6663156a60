use Rattle.std.proofs.Common.{◌≡◌, drop}
use Rattle.ix_base.specs.Trees.{tree_of, nodes_of}
use Rattle.scopes.specs.Hrefs.{href_in, href_at}
use Rattle.scopes.proofs.base.+first_href.Given as goal

-- what is first among the children that are left
abbrev pub invariant-loop-child : goal.invariant-loop-child
invariant-loop-child l = href_in (nodes_of (drop l.child-index l.child-items)) ≡ href_at (tree_of l.element)
