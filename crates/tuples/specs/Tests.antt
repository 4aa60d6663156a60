-- The rules on tuples.
use Rattle.ix_base.specs.declared.rule.Rule.{Rule}
use Rattle.ix_base.specs.declared.rule.Rule.TheVariants.{L8, L9, L10, L12, L13}
use Rattle.tuples.specs.declared.rules.Test.{Test}
use Rattle.tuples.specs.declared.rules.Test.TheVariants as test

-- the rule on tuples for which a test looks
abbrev pub tuple_rule : Test → Rule
tuple_rule test.Lacking = L8
tuple_rule test.Deep = L9
tuple_rule test.Leaving = L10
tuple_rule test.Repeating = L12
tuple_rule test.Unordered = L13
