-- Tables of the members of tuples.
use Rattle.std.specs.Prelude.{ℕ, ◌≡◌, Bool, false, ◌&&◌, List, filter, Vec}
use Rattle.std.specs.Option.{option_map_or}
use Rattle.std.specs.Global.{Global}
use Rattle.std.specs.List.Sorted.{IsSortedBy}
use Rattle.indexmap.specs.IndexMap.{IndexMap}
use Rattle.ix_base.specs.Asks.{Asks, asks}
use Rattle.ix_base.specs.LinkRules.{is_at}
use Rattle.ix_base.specs.LocatedElements.{Located, is_fact}
use Rattle.ix_base.specs.Membership.{owner}
use Rattle.ix_base.specs.SortedLists.{sorted}
use Rattle.tuples.specs.declared.fact.Fact.{Fact}
use Rattle.tuples.specs.FactGroups.{group_at, is_earlier}
use Rattle.tuples.specs.OwnedFacts.{all_seen, by_order}

-- a fact that the tuple at this place owns
abbrev pub is_member_at : Asks Located → ℕ → ℕ → Located → Bool
is_member_at a page offset f = is_fact f && option_map_or (is_at page offset) (owner a f) false

-- the members of the tuple at this place, by rising order
abbrev pub members_at : List Located → ℕ → ℕ → List Located
members_at es page offset = sorted by_order (filter (is_member_at (asks es) page offset) es)

-- the table has, by place, the members of each tuple of these elements, by rising order
pub record AreGrouped {S : Type 0} (m : IndexMap (ℕ × ℕ) (Vec Fact Global) S) (es : List Located) : Type 0 where
  pub members : (page offset : ℕ) → all_seen (group_at m page offset) ≡ members_at es page offset
  pub rising : (page offset : ℕ) → IsSortedBy is_earlier (group_at m page offset)
