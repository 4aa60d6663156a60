-- The ids that items name.
use Rattle.std.specs.Prelude.{◌≡◌, ◌&&◌, Bool, List, filter}
use Rattle.std.specs.List.{filter_map, list_all}
use Rattle.ix_base.specs.declared.kind.Kind.TheVariants as kind
use Rattle.ix_base.specs.Asks.{asks}
use Rattle.ix_base.specs.Ids.{stands_for}
use Rattle.ix_base.specs.LocatedElements.{Located, is_item}
use Rattle.ix_base.specs.Once.{in_order}
use Rattle.ix_base.specs.SortedLists.{text_cmp}
use Rattle.link_ids.specs.Links.{context_named, unit_named}
use Rattle.id_table.specs.declared.named.NamedIds.{NamedIds}
use Rattle.target_contents.specs.Visits.{values_of}

-- these are the ids of contexts and of units that the items among these elements name, in order, each once
pub record AreNamed (es : List Located) (n : NamedIds) : Type 0 where
  pub contexts : values_of n.contexts.items ≡ in_order text_cmp (filter_map context_named (filter is_item es))
  pub units : values_of n.units.items ≡ in_order text_cmp (filter_map unit_named (filter is_item es))

-- whether for each of these ids stands a context, or a unit
abbrev pub all_stand : List Located → NamedIds → Bool
all_stand es n =
    list_all (λ id. stands_for kind.Context (asks es) id.now) n.contexts.items && list_all (λ id. stands_for kind.Unit (asks es) id.now) n.units.items
