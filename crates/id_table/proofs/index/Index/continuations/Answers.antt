use Rattle.std.proofs.Common.{◌∙◌, ap, subst, sym}
use Rattle.std.specs.List.{filter}
use Rattle.ix_base.specs.LocatedElements.{is_continuation}
use Rattle.id_table.specs.Model.{Held}
use Rattle.id_table.specs.Tables.{AreOnOwnPages, all_located, chain_spots}
use Rattle.id_table.proofs.Sorting.{such-located, such-on_pages}
use Rattle.id_table.proofs.index.Index.continuations.Goals as goal

pub returns-clause-elements : goal.returns-clause-elements
returns-clause-elements c =
    ap all_located (ap chain_spots c.as_slice.ensures.value ∙ c.self.invariant.whole.by_sort.continuations) ∙ such-located is_continuation c.self.inside.kept.tables.spots.items
    ∙ ap (λ (h : Held). filter is_continuation h.spots) c.self.view_is

pub returns-clause-pages : goal.returns-clause-pages
returns-clause-pages c =
    subst AreOnOwnPages (sym (ap chain_spots c.as_slice.ensures.value ∙ c.self.invariant.whole.by_sort.continuations))
    (such-on_pages is_continuation c.self.inside.kept.tables.spots.items c.self.invariant.whole.on_pages)
