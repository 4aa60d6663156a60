-- Relationships with the elements that their ids name.
use Rattle.std.specs.Prelude.{◌≡◌, List, map, is_none}
use Rattle.std.specs.List.{list_any}
use Rattle.ix_base.specs.Asks.{Asks}
use Rattle.ix_base.specs.Ids.{one_such}
use Rattle.ix_base.specs.LinkRules.{from_ids, to_ids, is_end, named_by}
use Rattle.ix_base.specs.LocatedElements.{Located, located, is_fact}
use Rattle.id_table.specs.Tables.{all_located}
use Rattle.footnotes.specs.declared.relationships.Relationship.{Relationship}

-- the element that a relationship is
abbrev pub seen : Relationship → Located
seen r = located r.spot.now

abbrev pub all_seen : List Relationship → List Located
all_seen rs = map seen rs

-- what stands with a relationship is what its ids name
pub record IsKnown (a : Asks Located) (r : Relationship) : Type 0 where
  pub sources : all_located r.sources.spots.now ≡ named_by is_fact a (from_ids (seen r))
  pub ends : all_located r.ends.spots.now ≡ named_by is_end a (to_ids (seen r))
  pub lacks_source : r.sources.is_missing ≡ list_any (λ id. is_none (one_such is_fact a id)) (from_ids (seen r))
  pub lacks_end : r.ends.is_missing ≡ list_any (λ id. is_none (one_such is_end a id)) (to_ids (seen r))
