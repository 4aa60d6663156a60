use Rattle.std.proofs.lemmas.Result.{on_err_weaker}
use Rattle.ix_base.proofs.FrontLemmas.{front-none, front-second}
use Rattle.ix_base.specs.LinkRules.{broken_at}
use Rattle.ix_base.specs.LocatedElements.{located}
use Rattle.ix_base.specs.declared.rule.Rule.TheVariants.{L2, L3}
use Rattle.id_table.specs.Model.{asked}
use Rattle.facts.proofs.links.refs_of.Goals as goal

-- what is told of the context is a front of all
pub returns-clause-err : goal.returns-clause-err
returns-clause-err c =
    let context = broken_at (asked c.args.index.now) L2 (located c.args.spot.now) in
    let unit = broken_at (asked c.args.index.now) L3 (located c.args.spot.now) in
    let between = c.add_context.new.breaches in
    let after = c.add_unit.new.breaches in
    let told = c.in_ok-add_context.ensures.ok in
    on_err_weaker c.add_unit.result
    (λ same. front-second c.args.breaches.now between after context unit told (front-none unit between after same))
    c.add_unit.ensures.err
