use Rattle.ix_base.proofs.FrontLemmas.{Grows}
use Rattle.ix_base.specs.declared.rule.Rule.TheVariants.{L6}
use Rattle.ix_base.specs.LinkRules.{breaking}
use Rattle.id_table.specs.Model.{asked}
use Rattle.continuations.proofs.Adding.{from_on}
use Rattle.continuations.proofs.reached.add_all_unreached.Given as goal

-- the breaches of the elements before here are added, and those from here on are left
abbrev pub invariant-loop-spot : goal.invariant-loop-spot
invariant-loop-spot l = Grows l.initial.breaches l.breaches (from_on (asked l.index) L6 l.spot-items l.spot-index) (breaking L6 l.index.spots)
