-- The rules on relationships.
use Rattle.ix_base.specs.declared.rule.Rule.{Rule}
use Rattle.ix_base.specs.declared.rule.Rule.TheVariants.{L11, L15, L16}
use Rattle.footnotes.specs.declared.rules.Test.{Test}
use Rattle.footnotes.specs.declared.rules.Test.TheVariants as test

-- the rule on relationships for which a test looks
abbrev pub relationship_rule : Test → Rule
relationship_rule test.Sources = L11
relationship_rule test.Ends = L15
relationship_rule test.Targets = L16
