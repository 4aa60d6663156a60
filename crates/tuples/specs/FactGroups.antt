-- Facts in tables by the places of their owners.
use Rattle.std.specs.Prelude.{ℕ, ◌≡◌, Bool, true, false, List, [], ◌∷◌, ◌++◌, filter, Vec}
use Rattle.std.specs.Option.{option_map_or}
use Rattle.std.specs.Global.{Global}
use Rattle.std.specs.List.Sorted.{IsSortedBy}
use Rattle.std.specs.Ordering.{is_lt}
use Rattle.indexmap.specs.IndexMap.{IndexMap, get_by}
use Rattle.ix_base.specs.SortedLists.{sorted}
use Rattle.id_table.specs.Slices.{is_key}
use Rattle.tuples.specs.declared.fact.Fact.{Fact}
use Rattle.tuples.specs.OwnedFacts.{fact_cmp, is_owned_at}

-- the order of the one is less
abbrev pub is_earlier : Fact → Fact → Bool
is_earlier x y = is_lt (fact_cmp x y)

-- the facts that are entered at a place
abbrev pub group_at : {S : Type 0} → IndexMap (ℕ × ℕ) (Vec Fact Global) S → ℕ → ℕ → List Fact
group_at m page offset = option_map_or (λ v. v.items) (get_by (is_key page offset) m) []

abbrev pub put_at : Bool → Fact → List Fact → List Fact
put_at true x xs = xs ++ x ∷ []
put_at false x xs = xs

-- the table has, by place, those of the facts that the tuple there owns, by rising order
pub record AreGroups {S : Type 0} (m : IndexMap (ℕ × ℕ) (Vec Fact Global) S) (facts : List Fact) : Type 0 where
  pub members : (page offset : ℕ) → group_at m page offset ≡ sorted fact_cmp (filter (is_owned_at page offset) facts)
  pub rising : (page offset : ℕ) → IsSortedBy is_earlier (group_at m page offset)
