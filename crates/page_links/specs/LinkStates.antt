-- Links between elements, and how they stand while pages come (Inline XBRL 1.1: continuation, contexts and units of facts, tuples,
-- relationships).
use Rattle.std.specs.Prelude.{◌≡◌, ℕ, Bool, true, false, not, List, [], ◌∷◌, ◌⊎◌, filter, Option, if◌then◌else◌}
use Rattle.std.specs.Option.{option_map_or}
use Rattle.ix_base.specs.Asks.{are_many, are_some, asks}
use Rattle.ix_base.specs.Ids.{are_doubled, holds_id, holds_tuple_id, one, one_tuple}
use Rattle.ix_base.specs.LocatedElements.{Located}
use Rattle.link_ids.specs.Links.{Link, links}
use Rattle.link_ids.specs.declared.attributes.LinkAttribute.{LinkAttribute}
use Rattle.link_ids.specs.declared.attributes.LinkAttribute.TheVariants as attribute

pub data Stands : Type 0 where
  pending : Stands
  resolved : (to : Located) → Stands
  doubled : Stands

-- an id among elements: doubled where several have it that don't agree, resolved where one is the one with it, and else pending; the
-- pages have these names
abbrev pub id_stands : (ℕ → List ℕ) → List Located → List ℕ → Stands
id_stands names es id = if are_doubled (asks es) id then doubled else option_map_or (λ e. resolved e) (one names es id) pending

-- by the tuples that have a tuple id: with none it is pending, with one resolved, with more doubled
abbrev pub stands_by : List Located → Stands
stands_by [] = pending
stands_by (e ∷ []) = resolved e
stands_by (e ∷ f ∷ es) = doubled

abbrev pub tuple_stands : List Located → List ℕ → Stands
tuple_stands es id = stands_by (filter (holds_tuple_id id) es)

-- a tupleRef names the tuple id of a tuple, every other attribute the id of an element
abbrev pub is_tuple_ref : LinkAttribute → Bool
is_tuple_ref attribute.TupleRef = true
is_tuple_ref a = false

-- how a link stands among some elements
abbrev pub link_stands : (ℕ → List ℕ) → List Located → Link → Stands
link_stands names es l = if is_tuple_ref l.attribute then tuple_stands es l.id else id_stands names es l.id

-- no element has the id that a link names, or no tuple the tuple id
abbrev pub is_pending : List Located → Link → Bool
is_pending es l = if is_tuple_ref l.attribute then not (are_some (asks es) (holds_tuple_id l.id)) else not (are_some (asks es) (holds_id l.id))

-- several elements have the id and don't agree, or several tuples have the tuple id
abbrev pub is_doubled : List Located → Link → Bool
is_doubled es l = if is_tuple_ref l.attribute then are_many (asks es) (holds_tuple_id l.id) else are_doubled (asks es) l.id

-- the links of some elements that are pending, and those that are doubled
abbrev pub pending_links : List Located → List Link
pending_links es = filter (is_pending es) (links es)

abbrev pub doubled_links : List Located → List Link
doubled_links es = filter (is_doubled es) (links es)

-- As elements come a pending link may come to stand in any way. A resolved one stays resolved, perhaps with another element that agrees
-- and comes first, or is doubled. None goes back.
abbrev pub GoesOn : Stands → Stands → Type 0
GoesOn pending s = Unit {0}
GoesOn (resolved e) s = ((x : Located) × (s ≡ resolved x)) ⊎ (s ≡ doubled)
GoesOn doubled s = s ≡ doubled

-- the one element that a link's id is that of, where there is one
abbrev pub holder : (ℕ → List ℕ) → List Located → Link → Option Located
holder names es l = if is_tuple_ref l.attribute then one_tuple (asks es) l.id else one names es l.id
