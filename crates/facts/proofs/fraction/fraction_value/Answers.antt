use Rattle.std.proofs.Common.{codes, subst, sym, IfSome}
use Rattle.ix_base.specs.Trees.{tree_of}
use Rattle.facts.specs.FractionValue.{IsPart, IsFractionValue}
use Rattle.facts.proofs.ItemLaws.{fraction_is}
use Rattle.facts.proofs.fraction.fraction_value.Goals as goal

pub returns : goal.returns
returns c =
    subst (λ o. IfSome o (IsFractionValue (tree_of c.args.e.now))) (sym c.fraction_of.ensures)
    (fraction_is (IsPart (codes "numerator") (tree_of c.args.e.now)) (IsPart (codes "denominator") (tree_of c.args.e.now)) _ _
    c.part_named-numerator.ensures c.part_named-denominator.ensures)
