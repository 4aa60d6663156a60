use Rattle.std.proofs.Common.{◌∙◌, ◌++◌, ap, append_assoc, List}
use Rattle.ix_base.specs.LinkRules.{breaking}
use Rattle.ix_base.specs.declared.breach.Found.{Found}
use Rattle.ix_base.specs.declared.rule.Rule.TheVariants.{L4, L5, L6, L7}
use Rattle.continuations.proofs.Adding.{front-all, err-any}
use Rattle.continuations.proofs.linking.chains_if_sound.Goals as goal

pub returns-clause-err : goal.returns-clause-err
returns-clause-err c =
    let es = c.args.index.now.spots in
    let old = c.args.breaches.now in
    err-any _ (front-all _ old _ (c.in_ok-add_breaches.ensures.ok
    ∙ ap (λ (x : List Found). x ++ breaking L6 es ++ breaking L7 es) (append_assoc old (breaking L4 es) (breaking L5 es))
    ∙ ap (λ (x : List Found). x ++ breaking L7 es) (append_assoc old (breaking L4 es ++ breaking L5 es) (breaking L6 es))
    ∙ append_assoc old (breaking L4 es ++ breaking L5 es ++ breaking L6 es) (breaking L7 es)))
