-- Links: an attribute of an element names an id (Inline XBRL 1.1: continuation, contexts and units of facts, tuples, relationships).
use Rattle.std.specs.Prelude.{ℕ, List, [], ◌∷◌, ◌++◌, map, filter, Option, Some, None, if◌then◌else◌, codes}
use Rattle.std.specs.List.{flat_map}
use Rattle.std.specs.Option.{option_map_or}
use Rattle.ix_base.specs.Chain.{continued_at}
use Rattle.ix_base.specs.Forms.{words_of}
use Rattle.ix_base.specs.Kinds.{kind_of}
use Rattle.ix_base.specs.LinkRules.{is_relationship}
use Rattle.ix_base.specs.LocatedElements.{Located, is_fact, is_item, token_at}
use Rattle.ix_base.specs.Membership.{tuple_ref_of}
use Rattle.ix_base.specs.NcName.{is_ncname}
use Rattle.ix_base.specs.Once.{in_order}
use Rattle.ix_base.specs.Readers.{attr, unit_of}
use Rattle.ix_base.specs.SortedLists.{text_cmp}
use Rattle.link_ids.specs.declared.attributes.LinkAttribute.{LinkAttribute}
use Rattle.link_ids.specs.declared.attributes.LinkAttribute.TheVariants as attribute

-- the context and the unit that an item names
abbrev pub context_named : Located → Option (List ℕ)
context_named e = token_at (codes "contextRef") e

abbrev pub unit_named : Located → Option (List ℕ)
unit_named e = unit_of (kind_of e.placed) e.placed.tree

-- a link: an attribute of an element names an id
pub record Link : Type 0 where
  pub attribute : LinkAttribute
  pub id : List ℕ
  pub element : Located

-- the one id that an attribute names, and the list of ids, where the element may have the attribute
abbrev pub single_at : LinkAttribute → Located → Option (List ℕ)
single_at attribute.ContinuedAt e = continued_at e
single_at attribute.ContextRef e = if is_item e then context_named e else None
single_at attribute.UnitRef e = unit_named e
single_at attribute.TupleRef e = if is_fact e then tuple_ref_of e else None
single_at a e = None

abbrev pub list_at : LinkAttribute → Located → Option (List ℕ)
list_at attribute.FromRefs e = if is_relationship e then attr (codes "fromRefs") e.placed.tree else None
list_at attribute.ToRefs e = if is_relationship e then attr (codes "toRefs") e.placed.tree else None
list_at a e = None

abbrev pub of_option : Option (List ℕ) → List (List ℕ)
of_option None = []
of_option (Some x) = x ∷ []

-- those that can be ids, each once
abbrev pub ids_at : LinkAttribute → Located → List (List ℕ)
ids_at a e = in_order text_cmp (filter is_ncname (of_option (single_at a e) ++ option_map_or words_of (list_at a e) []))

abbrev pub links_from : LinkAttribute → Located → List Link
links_from a e = map (λ id. record { attribute = a; id = id; element = e }) (ids_at a e)

-- the links of an element
abbrev pub links_of : Located → List Link
links_of e =
    links_from attribute.ContinuedAt e ++ (links_from attribute.ContextRef e ++ (links_from attribute.UnitRef e
    ++ (links_from attribute.TupleRef e ++ (links_from attribute.FromRefs e ++ links_from attribute.ToRefs e))))

abbrev pub links : List Located → List Link
links es = flat_map links_of es
