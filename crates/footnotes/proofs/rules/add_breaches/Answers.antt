use Rattle.std.proofs.lemmas.Result.{on_err_weaker}
use Rattle.ix_base.proofs.FrontLemmas.{on-err}
use Rattle.ix_base.specs.LinkRules.{breaking}
use Rattle.ix_base.specs.declared.rule.Rule.TheVariants.{L11, L15, L16}
use Rattle.footnotes.proofs.Adding.{front-1, front-2, front-3}
use Rattle.footnotes.proofs.rules.add_breaches.Goals as goal

pub returns-in_err-add_broken-clause-err : goal.returns-in_err-add_broken-clause-err
returns-in_err-add_broken-clause-err c =
    let es = c.args.index.now.spots in
    on-err _ (front-1 (breaking L11 es) (breaking L15 es) (breaking L16 es) _ _ c.in_err-add_broken.ensures.err)

pub returns-in_err-add_broken-2-clause-err : goal.returns-in_err-add_broken-2-clause-err
returns-in_err-add_broken-2-clause-err c =
    let es = c.args.index.now.spots in
    on-err _ (front-2 (breaking L11 es) (breaking L15 es) (breaking L16 es) _ _ _ c.in_ok-add_broken.ensures.ok c.in_err-add_broken-2.ensures.err)

pub returns-clause-err : goal.returns-clause-err
returns-clause-err c =
    let es = c.args.index.now.spots in
    on_err_weaker c.add_broken-3.result (λ f. front-3 (breaking L11 es) (breaking L15 es) (breaking L16 es) _ _ _ _
    c.in_ok-add_broken.ensures.ok c.in_ok-add_broken-2.ensures.ok f) c.add_broken-3.ensures.err
