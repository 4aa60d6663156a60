use Rattle.ix_base.specs.LinkRules.{breaking}
use Rattle.ix_base.specs.declared.rule.Rule.TheVariants.{L11, L15, L16}
use Rattle.footnotes.proofs.Adding.{err-any, front-4}
use Rattle.footnotes.proofs.rules.related.Goals as goal

pub returns-clause-err : goal.returns-clause-err
returns-clause-err c =
    let es = c.args.index.now.spots in
    err-any _ (front-4 (breaking L11 es) (breaking L15 es) (breaking L16 es) c.args.breaches.now c.add_breaches.new.breaches c.in_ok-add_breaches.ensures.ok)
