use Rattle.std.proofs.Common.{◌∙◌, sym, subst}
use Rattle.ix_base.specs.LinkRules.{breaking}
use Rattle.ix_base.specs.declared.rule.Rule.TheVariants.{L8, L9, L10, L12, L13}
use Rattle.tuples.proofs.Adding.{err-any, front-6}
use Rattle.tuples.specs.Model.{AreMembersOf, Kept}
use Rattle.tuples.proofs.NoneOwned.{no-members-of, none-added}
use Rattle.tuples.proofs.linking.membership.Goals as goal

pub returns-clause-err : goal.returns-clause-err
returns-clause-err c =
    let es = c.args.index.now.spots in
    err-any _ (front-6 (breaking L8 es) (breaking L9 es) (breaking L10 es) (breaking L12 es) (breaking L13 es) c.args.breaches.now c.member_slices.new.breaches
    c.in_ok-slices.ensures.breaches)

pub returns-then-not-has_tuples-clause-breaches : goal.returns-then-not-has_tuples-clause-breaches
returns-then-not-has_tuples-clause-breaches c =
    let tuples = c.has_tuples.ensures in
    let none = c.if-not-has_tuples.true in
    none-added c.args.index.now.spots (sym tuples.tuples ∙ none) (tuples.unowned none) c.args.breaches.now

pub returns-then-not-has_tuples-clause-members : goal.returns-then-not-has_tuples-clause-members
returns-then-not-has_tuples-clause-members c =
    let es = c.args.index.now.spots in
    let tuples = c.has_tuples.ensures in
    let none = c.if-not-has_tuples.true in
    subst (λ (k : Kept). AreMembersOf k es) (sym c.none.ensures) (no-members-of es (sym tuples.tuples ∙ none) (tuples.unowned none))
