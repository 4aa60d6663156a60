use Rattle.std.proofs.Common.{◌∙◌, ap, subst, sym}
use Rattle.std.specs.List.{filter}
use Rattle.id_table.specs.Model.{Held, is_checked}
use Rattle.id_table.specs.Tables.{AreOnOwnPages, all_located}
use Rattle.id_table.proofs.Sorting.{such-located, such-on_pages}
use Rattle.id_table.proofs.index.Index.checked.Goals as goal

pub returns-clause-elements : goal.returns-clause-elements
returns-clause-elements c =
    ap all_located (c.as_slice.ensures.value ∙ c.self.invariant.whole.by_sort.checked) ∙ such-located is_checked c.self.inside.kept.tables.spots.items
    ∙ ap (λ (h : Held). filter is_checked h.spots) c.self.view_is

pub returns-clause-pages : goal.returns-clause-pages
returns-clause-pages c =
    subst AreOnOwnPages (sym (c.as_slice.ensures.value ∙ c.self.invariant.whole.by_sort.checked))
    (such-on_pages is_checked c.self.inside.kept.tables.spots.items c.self.invariant.whole.on_pages)
