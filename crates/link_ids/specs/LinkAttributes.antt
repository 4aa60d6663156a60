-- What the attributes of an element that name ids say, whatever its kind.
use Rattle.std.specs.Prelude.{ℕ, List, [], ◌++◌, map, filter, Option, None, codes}
use Rattle.std.specs.Option.{option_map_or}
use Rattle.ix_base.specs.Forms.{words_of}
use Rattle.ix_base.specs.LocatedElements.{Located}
use Rattle.ix_base.specs.NcName.{is_ncname}
use Rattle.ix_base.specs.Once.{in_order}
use Rattle.ix_base.specs.Readers.{attr, token_at}
use Rattle.ix_base.specs.SortedLists.{text_cmp}
use Rattle.ix_base.specs.Trees.{Tree}
use Rattle.link_ids.specs.Links.{Link, of_option}
use Rattle.link_ids.specs.declared.attributes.LinkAttribute.{LinkAttribute}
use Rattle.link_ids.specs.declared.attributes.LinkAttribute.TheVariants as attribute

-- the one id, and the list of ids
abbrev pub single_in : LinkAttribute → Tree → Option (List ℕ)
single_in attribute.ContinuedAt t = token_at (codes "continuedAt") t
single_in attribute.ContextRef t = token_at (codes "contextRef") t
single_in attribute.UnitRef t = token_at (codes "unitRef") t
single_in attribute.TupleRef t = token_at (codes "tupleRef") t
single_in a t = None

abbrev pub list_in : LinkAttribute → Tree → Option (List ℕ)
list_in attribute.FromRefs t = attr (codes "fromRefs") t
list_in attribute.ToRefs t = attr (codes "toRefs") t
list_in a t = None

-- what an attribute names: one id, or each word of a list
abbrev pub words_in : LinkAttribute → Tree → List (List ℕ)
words_in a t = of_option (single_in a t) ++ option_map_or words_of (list_in a t) []

-- links of an element by an attribute that names these ids
abbrev pub links_to : LinkAttribute → Located → List (List ℕ) → List Link
links_to a e ids = map (λ id. record { attribute = a; id = id; element = e }) ids

-- the links that an attribute makes: to those that can be ids, each once
abbrev pub links_in : LinkAttribute → Located → List Link
links_in a e = links_to a e (in_order text_cmp (filter is_ncname (words_in a e.placed.tree)))
