use Rattle.std.proofs.Common.{◌∙◌, ap, sym, codes}
use Rattle.std.specs.List.{list_any}
use Rattle.ix_base.specs.ElementContent.{named_in}
use Rattle.ix_base.specs.Namespaces.{ix_namespace}
use Rattle.ix_base.specs.Trees.{tree_of, nodes_of}
use Rattle.ix_grammar.specs.Measures.{measured, differs_from}
use Rattle.ix_grammar.proofs.FoundLaws.{children-is}
use Rattle.ix_grammar.proofs.SoundLaws.{unnamed}
use Rattle.ix_grammar.proofs.nested.holds_differing.Goals as goal

pub returns-then-has_no_elements : goal.returns-then-has_no_elements
returns-then-has_no_elements c =
    let e = c.args.e.now in
    sym (ap (λ ns. list_any (differs_from (measured (tree_of e))) (named_in ix_namespace (codes "nonFraction") ns)) (children-is e)
    ∙ ap (λ ts. list_any (differs_from (measured (tree_of e))) ts) (unnamed ix_namespace (codes "nonFraction") (nodes_of e.children.now) (sym c.if-has_no_elements.ensures)))
