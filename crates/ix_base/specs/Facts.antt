-- Facts apart from where they lie in memory.
use Rattle.std.specs.Prelude.{ℕ, List, [], ◌∷◌, map, Bool, Option}
use Rattle.ix_base.specs.declared.content.OwnName.{OwnName}
use Rattle.ix_base.specs.declared.content.Item.{Item}
use Rattle.ix_base.specs.declared.content.Fact.{Fact}
use Rattle.ix_base.specs.declared.content.Fact.TheOpen.{Fact-F, Tuple-F}
use Rattle.ix_base.specs.declared.content.Fact.TheFolds.{fold-Fact}

-- some facts in order: an item, or a tuple with its members, and the facts after it
pub data Facts : Type 0 where
  none : Facts
  item : (here : Item) → (rest : Facts) → Facts
  tuple : (name : OwnName) → (id : Option (List ℕ)) → (nil : Bool) → (members : Facts) → (rest : Facts) → Facts

abbrev pub joined : List (Facts → Facts) → Facts
joined [] = none
joined (f ∷ fs) = f (joined fs)

abbrev pub fact_step : Fact-F (Facts → Facts) (Facts → Facts) → Facts → Facts
fact_step (Fact-F.Item i) = λ rest. item i rest
fact_step (Fact-F.Tuple t) = t

abbrev pub tuple_step : Tuple-F (Facts → Facts) (Facts → Facts) → Facts → Facts
tuple_step t = λ rest. tuple t.name t.id t.nil (joined t.members) rest

-- a fact in front of others
abbrev pub before : Fact → Facts → Facts
before = fold-Fact (Facts → Facts) (Facts → Facts) fact_step tuple_step

abbrev pub facts_of : List Fact → Facts
facts_of fs = joined (map before fs)
