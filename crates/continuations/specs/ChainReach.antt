-- What chains reach.
use Rattle.std.specs.Prelude.{ℕ, suc, ◌≡◌, List, length, flat_map, filter, Vec}
use Rattle.std.specs.Borrow.{Bor}
use Rattle.std.specs.Global.{Global}
use Rattle.ix_base.specs.declared.tree.Spot.{Spot}
use Rattle.ix_base.specs.Asks.{Asks}
use Rattle.ix_base.specs.Chain.{chain_of}
use Rattle.ix_base.specs.LinkRules.{inner_along, goes_on_at}
use Rattle.ix_base.specs.LocatedElements.{Located, is_start, is_continuation}
use Rattle.id_table.specs.Tables.{spots_at}
use Rattle.text_map.specs.Texts.{Texts}

-- the chains of those of these elements with which one begins, each at most so long
abbrev pub reached_by : Asks Located → ℕ → List Located → List Located
reached_by a most xs = flat_map (chain_of a most) (filter is_start xs)

-- what stands inside another element of its chain
abbrev pub inner_by : Asks Located → ℕ → List Located → List Located
inner_by a most xs = flat_map (λ s. inner_along (chain_of a most s)) (filter is_start xs)

-- how long a chain is at most
abbrev pub most_of : Asks Located → ℕ
most_of a = suc (a.count is_continuation)

-- the table has for each id the elements that go on at it, as far as their number
abbrev pub AreNamers : Texts (Vec (Bor Spot) Global) → Asks Located → Type 0
AreNamers m a = (q : List ℕ) → length (spots_at m q) ≡ a.count (goes_on_at q)
