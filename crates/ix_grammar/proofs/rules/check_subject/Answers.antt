use Rattle.std.proofs.Common.{subst}
use Rattle.std.specs.Result.{OnErr}
use Rattle.ix_base.specs.Elements.{placed}
use Rattle.ix_base.specs.Fronts.{AppendsFront}
use Rattle.ix_grammar.proofs.FoundLaws.{found-is}
use Rattle.ix_grammar.proofs.rules.check_subject.Goals as goal

pub returns-clause-err : goal.returns-clause-err
returns-clause-err c =
    subst (λ l. OnErr c.check_some.result (AppendsFront l c.args.breaches.now c.check_some.new.breaches))
    (found-is c.element_rules.result.now c.args.of.now.kind c.args.of.now.place (placed c.args.of.now.spot.now) c.element_rules.ensures c.requires.kind)
    c.check_some.ensures.err
