-- Facts with their owners.
use Rattle.std.specs.Prelude.{ℕ, ◌≡◌, Bool, false, List, map, option_map}
use Rattle.std.specs.Option.{option_map_or}
use Rattle.std.specs.Ordering.{on}
use Rattle.std.specs.declared.cmp.Ordering.{Ordering}
use Rattle.ix_base.specs.Asks.{Asks}
use Rattle.ix_base.specs.Elements.{placed}
use Rattle.ix_base.specs.LinkRules.{is_at}
use Rattle.ix_base.specs.LocatedElements.{Located, located, on_page}
use Rattle.ix_base.specs.Membership.{owner, order_of}
use Rattle.ix_base.specs.Orders.{order_cmp}
use Rattle.tuples.specs.declared.fact.Fact.{Fact}
use Rattle.tuples.specs.declared.fact.Owner.{Owner}

-- the tuple that an owner is, on its page
abbrev pub owner_seen : Owner → Located
owner_seen o = on_page o.page (placed o.spot.now)

-- the element that a fact is
abbrev pub seen : Fact → Located
seen f = located f.spot.now

abbrev pub all_seen : List Fact → List Located
all_seen facts = map seen facts

-- the owner that stands with the fact is its owner
abbrev pub IsKnown : Asks Located → Fact → Type 0
IsKnown a f = option_map owner_seen f.owner ≡ owner a (seen f)

-- the tuple at this place stands with the fact as its owner
abbrev pub is_owned_at : ℕ → ℕ → Fact → Bool
is_owned_at page offset f = option_map_or (is_at page offset) (option_map owner_seen f.owner) false

-- elements by their orders
abbrev pub by_order : Located → Located → Ordering
by_order = on order_of order_cmp

-- facts by their orders
abbrev pub fact_cmp : Fact → Fact → Ordering
fact_cmp x y = by_order (seen x) (seen y)
