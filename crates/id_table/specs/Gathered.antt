-- Texts that are gathered to be put in order, each once.
use Rattle.std.specs.Prelude.{◌≡◌, ◌++◌, [], ℕ, List, filter, map}
use Rattle.std.specs.Borrow.{Bor}
use Rattle.std.specs.List.{filter_map}
use Rattle.ix_base.specs.LocatedElements.{Located, is_item}
use Rattle.ix_base.specs.Once.{in_order}
use Rattle.ix_base.specs.SortedLists.{text_cmp}
use Rattle.link_ids.specs.Links.{context_named, unit_named}
use Rattle.id_table.specs.declared.named.NamedIds.{NamedIds}

-- in order, each once, whatever follows, the new texts are the old ones with these behind them
abbrev pub Gathers : List (List ℕ) → List (List ℕ) → List (List ℕ) → Type 0
Gathers old new more = (rest : List (List ℕ)) → in_order text_cmp (new ++ rest) ≡ in_order text_cmp (old ++ (more ++ rest))

-- the texts that are lent
abbrev pub texts_of : List (Bor (List ℕ)) → List (List ℕ)
texts_of texts = map (λ t. t.now) texts

-- the ids of contexts and of units that the items among these elements name are gathered
pub record AreGathered (es : List Located) (n : NamedIds) : Type 0 where
  pub contexts : Gathers [] (texts_of n.contexts.items) (filter_map context_named (filter is_item es))
  pub units : Gathers [] (texts_of n.units.items) (filter_map unit_named (filter is_item es))
