-- The elements of chains, numbered, as they are kept.
use Rattle.std.specs.Prelude.{◌≡◌, ◌↔◌, true, ◌++◌, List, filter, length}
use Rattle.std.specs.List.{list_any}
use Rattle.ix_base.specs.Asks.{asks}
use Rattle.ix_base.specs.LinkRules.{lacks_continuation}
use Rattle.ix_base.specs.LocatedElements.{Located, is_continuation, is_start}
use Rattle.id_table.specs.Tables.{all_located, AreOnOwnPages}
use Rattle.continuations.specs.declared.links.Links.{Links}
use Rattle.continuations.specs.Walks.{AreNexts, Joined}

-- the continuations of a set, behind them the elements with which chains begin, and what is known of all
pub record AreLinks (es : List Located) (l : Links) : Type 0 where
  pub spots : all_located l.spots.items ≡ filter is_continuation es ++ filter is_start es
  pub counted : l.continuations ≡ length (filter is_continuation es)
  pub nexts : AreNexts (asks es) (all_located l.spots.items) l.continuations l.nexts.items
  pub on_pages : AreOnOwnPages l.spots.items
  pub lacks : l.lacks ≡ list_any (lacks_continuation (asks es)) es
  pub joins : (l.joins ≡ true) ↔ Joined l.nexts.items
