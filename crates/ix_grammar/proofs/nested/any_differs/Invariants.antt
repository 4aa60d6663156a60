use Rattle.std.proofs.Common.{◌≡◌, drop}
use Rattle.std.specs.Prelude.{codes}
use Rattle.std.specs.List.{list_any}
use Rattle.ix_base.specs.ElementContent.{named_in}
use Rattle.ix_base.specs.Namespaces.{ix_namespace}
use Rattle.ix_base.specs.Trees.{nodes_of}
use Rattle.ix_grammar.specs.Measures.{seen, differs_from}
use Rattle.ix_grammar.proofs.nested.any_differs.Given as goal

abbrev pub invariant-loop-node : goal.invariant-loop-node
invariant-loop-node l =
    list_any (differs_from (seen l.own)) (named_in ix_namespace (codes "nonFraction") (nodes_of (drop l.node-index l.nodes)))
    ≡ list_any (differs_from (seen l.own)) (named_in ix_namespace (codes "nonFraction") (nodes_of l.nodes))
