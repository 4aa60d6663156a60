use Rattle.std.proofs.Common.{drop}
use Rattle.ix_base.specs.Elements.{placed}
use Rattle.ix_grammar.specs.Additions.{Stands, found_as}
use Rattle.ix_grammar.proofs.rules.check_some.Given as goal

-- what the rules from here on give is left
abbrev pub invariant-loop-rule : goal.invariant-loop-rule
invariant-loop-rule l =
    Stands (found_as l.rules l.of.kind l.of.place (placed l.of.spot.now)) l.initial.breaches l.breaches
    (found_as (drop l.rule-index l.rules) l.of.kind l.of.place (placed l.of.spot.now))
