use Rattle.std.proofs.Common.{◌∙◌, ◌++◌, List, ap, append_assoc}
use Rattle.std.proofs.lemmas.Result.{on_err_weaker}
use Rattle.ix_base.proofs.FrontLemmas.{front-first, front-second, on-err}
use Rattle.ix_base.specs.LinkRules.{breaking}
use Rattle.ix_base.specs.declared.breach.Found.{Found}
use Rattle.ix_base.specs.declared.rule.Rule.TheVariants.{L4, L5, L6, L7}
use Rattle.continuations.proofs.linking.add_breaches.Goals as goal

pub returns-in_err-add_lacking-clause-err : goal.returns-in_err-add_lacking-clause-err
returns-in_err-add_lacking-clause-err c =
    let es = c.args.index.now.spots in
    on-err _ (front-first _ _ (breaking L4 es ++ breaking L5 es ++ breaking L6 es) (breaking L7 es)
    (front-first _ _ (breaking L4 es ++ breaking L5 es) (breaking L6 es)
    (front-first _ _ (breaking L4 es) (breaking L5 es) c.in_err-add_lacking.ensures.err)))

pub returns-in_err-add_named_twice-clause-err : goal.returns-in_err-add_named_twice-clause-err
returns-in_err-add_named_twice-clause-err c =
    let es = c.args.index.now.spots in
    on-err _ (front-first _ _ (breaking L4 es ++ breaking L5 es ++ breaking L6 es) (breaking L7 es)
    (front-first _ _ (breaking L4 es ++ breaking L5 es) (breaking L6 es)
    (front-second _ _ _ (breaking L4 es) (breaking L5 es) c.in_ok-add_lacking.ensures.ok c.in_err-add_named_twice.ensures.err)))

pub returns-in_err-add_unreached-clause-err : goal.returns-in_err-add_unreached-clause-err
returns-in_err-add_unreached-clause-err c =
    let es = c.args.index.now.spots in
    let both = c.in_ok-add_named_twice.ensures.ok ∙ ap (λ (x : List Found). x ++ breaking L5 es) c.in_ok-add_lacking.ensures.ok
    ∙ append_assoc c.args.breaches.now (breaking L4 es) (breaking L5 es) in
    on-err _ (front-first _ _ (breaking L4 es ++ breaking L5 es ++ breaking L6 es) (breaking L7 es)
    (front-second _ _ _ (breaking L4 es ++ breaking L5 es) (breaking L6 es) both c.in_err-add_unreached.ensures.err))

pub returns-clause-err : goal.returns-clause-err
returns-clause-err c =
    let es = c.args.index.now.spots in
    let old = c.args.breaches.now in
    let both = c.in_ok-add_named_twice.ensures.ok ∙ ap (λ (x : List Found). x ++ breaking L5 es) c.in_ok-add_lacking.ensures.ok
    ∙ append_assoc old (breaking L4 es) (breaking L5 es) in
    let three = c.in_ok-add_unreached.ensures.ok ∙ ap (λ (x : List Found). x ++ breaking L6 es) both ∙ append_assoc old (breaking L4 es ++ breaking L5 es) (breaking L6 es) in
    on_err_weaker c.add_inside.result
    (λ f. front-second old _ _ (breaking L4 es ++ breaking L5 es ++ breaking L6 es) (breaking L7 es) three f)
    c.add_inside.ensures.err
