use Rattle.ix_base.proofs.FrontLemmas.{Grows}
use Rattle.ix_base.specs.LinkRules.{breaking}
use Rattle.id_table.specs.Model.{asked}
use Rattle.tuples.specs.Tests.{tuple_rule}
use Rattle.tuples.proofs.Adding.{from_on}
use Rattle.tuples.proofs.rules.add_broken.Given as goal

-- the breaches of the facts before here are added, and those from here on are left
abbrev pub invariant-loop-fact : goal.invariant-loop-fact
invariant-loop-fact l = Grows l.initial.breaches l.breaches (from_on (asked l.index) l.test l.facts l.fact-index) (breaking (tuple_rule l.test) l.index.spots)
