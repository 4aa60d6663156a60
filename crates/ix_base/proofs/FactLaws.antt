-- Facts apart from where they lie in memory, one by one.
use Rattle.std.proofs.Common.{◌≡◌, rules}
use Rattle.ix_base.specs.Facts.{Facts, item, tuple, before, facts_of}
use Rattle.ix_base.specs.declared.content.Fact.{the_lemmas}
use Rattle.ix_base.specs.declared.content.Item.{Item}
use Rattle.ix_base.specs.declared.content.Tuple.{Tuple}
use Rattle.ix_base.specs.declared.content.Fact.TheVariants as variants

pub before-Item : (i : Item) (rest : Facts) → before (variants.Item i) rest ≡ item i rest
before-Item i rest = search (rules, the_lemmas)

pub before-Tuple : (t : Tuple) (rest : Facts) → before (variants.Tuple t) rest ≡ tuple t.name t.id t.nil (facts_of t.members) rest
before-Tuple t rest = search (rules, the_lemmas)
