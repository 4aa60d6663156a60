use Rattle.ix_base.specs.LinkRules.{breaking}
use Rattle.ix_base.specs.declared.rule.Rule.TheVariants.{L8, L9, L10, L12, L13}
use Rattle.tuples.proofs.Adding.{err-any, front-6}
use Rattle.tuples.proofs.linking.grouped_slices.Goals as goal

pub returns-clause-err : goal.returns-clause-err
returns-clause-err c =
    let es = c.args.index.now.spots in
    err-any _ (front-6 (breaking L8 es) (breaking L9 es) (breaking L10 es) (breaking L12 es) (breaking L13 es) c.args.breaches.now c.add_breaches.new.breaches
    c.in_ok-add_breaches.ensures.ok)
