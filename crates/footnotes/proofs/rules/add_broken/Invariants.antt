use Rattle.ix_base.proofs.FrontLemmas.{Grows}
use Rattle.ix_base.specs.LinkRules.{breaking}
use Rattle.id_table.specs.Model.{asked}
use Rattle.footnotes.specs.Tests.{relationship_rule}
use Rattle.footnotes.proofs.Adding.{from_on}
use Rattle.footnotes.proofs.rules.add_broken.Given as goal

-- the breaches of the relationships before here are added, and those from here on are left
abbrev pub invariant-loop-relationship : goal.invariant-loop-relationship
invariant-loop-relationship l = Grows l.initial.breaches l.breaches (from_on (asked l.index) l.test l.relationships l.relationship-index) (breaking (relationship_rule l.test) l.index.spots)
