use Rattle.std.proofs.Common.{◌≡◌, ◌∙◌, ap, refl, subst, IfSome, Option}
use Rattle.ix_base.specs.Trees.{Tree, tree_of, nodes_of}
use Rattle.ix_base.specs.declared.tree.Element.{Element}
use Rattle.ix_base.specs.declared.tree.Node.TheFolds.{fold_out-Element}
use Rattle.facts.specs.FractionValue.{part_in, part_number}
use Rattle.facts.specs.NumberValue.{IsNumberValue}
use Rattle.facts.specs.Verdicts.{said}
use Rattle.facts.proofs.fraction.part_named.Goals as goal

children-are : (e : Element) → nodes_of e.children.now ≡ (tree_of e).children
children-are e = rw (fold_out-Element) refl

pub returns : goal.returns
returns c =
    subst (λ (o : Option Tree). IfSome (said c.part_value.result) (IsNumberValue (part_number o)))
    (c.part_in.ensures ∙ ap (part_in c.args.local.now) (children-are c.args.e.now)) c.part_value.ensures
