use Rattle.std.proofs.Common.{◌∙◌, refl, sym}
use Rattle.ix_base.proofs.FrontLemmas.{front-none, on-err}
use Rattle.ix_base.specs.declared.rule.Rule.TheVariants.{L7}
use Rattle.continuations.proofs.LinkLaws.{nothing-added}
use Rattle.continuations.proofs.ReachLaws.{none-inside}
use Rattle.continuations.proofs.reached.add_inside.Goals as goal

pub returns-in_err-any_nested-clause-err : goal.returns-in_err-any_nested-clause-err
returns-in_err-any_nested-clause-err c = on-err _ (front-none _ _ _ refl)

pub returns-in_err-inner-clause-err : goal.returns-in_err-inner-clause-err
returns-in_err-inner-clause-err c = on-err _ (front-none _ _ _ refl)

pub returns-then-not-branch-clause-ok : goal.returns-then-not-branch-clause-ok
returns-then-not-branch-clause-ok c =
    nothing-added c.args.breaches.now L7 c.args.index.now.spots (none-inside c.args.index.now.spots (sym c.in_ok-any_nested.ensures ∙ c.if-not-branch.true))
