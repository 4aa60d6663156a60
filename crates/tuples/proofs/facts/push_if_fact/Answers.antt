use Rattle.std.proofs.Common.{◌∙◌, subst, sym, List}
use Rattle.std.proofs.lemmas.List.Elements.{All-push}
use Rattle.std.specs.List.{All}
use Rattle.ix_base.specs.LocatedElements.{located}
use Rattle.id_table.specs.Model.{asked}
use Rattle.tuples.specs.declared.fact.Fact.{Fact}
use Rattle.tuples.specs.OwnedFacts.{IsKnown}
use Rattle.tuples.proofs.Each.{fact-more}
use Rattle.tuples.proofs.facts.push_if_fact.Goals as goal

pub returns-in_ok-push-clause-seen : goal.returns-in_ok-push-clause-seen
returns-in_ok-push-clause-seen c =
    fact-more c.args.facts.now.items c.push.new.self.items c.fact_of.result (located c.args.spot.now) c.in_ok-push.ensures.items c.fact_of.ensures.seen
    (sym c.is_fact.ensures ∙ c.if-is_fact.true)

pub returns-in_ok-push-clause-known : goal.returns-in_ok-push-clause-known
returns-in_ok-push-clause-known c =
    subst (All (IsKnown (asked c.args.index.now))) (sym {A = List Fact} c.in_ok-push.ensures.items)
    (All-push (IsKnown (asked c.args.index.now)) c.args.facts.now.items c.fact_of.result c.requires.known c.fact_of.ensures.known)
