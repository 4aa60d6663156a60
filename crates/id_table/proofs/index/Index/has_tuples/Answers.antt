use Rattle.std.proofs.Common.{◌∙◌, ap, subst, sym}
use Rattle.std.specs.List.{list_any}
use Rattle.id_table.specs.Model.{AreUnowned, Held, is_of_tuples}
use Rattle.id_table.specs.Tables.{all_located}
use Rattle.id_table.proofs.NoTuples.{unowned}
use Rattle.id_table.proofs.index.Index.has_tuples.Goals as goal

pub returns-clause-tuples : goal.returns-clause-tuples
returns-clause-tuples c = c.self.invariant.whole.by_sort.has_tuples ∙ ap (λ (h : Held). list_any is_of_tuples h.spots) c.self.view_is

pub returns-clause-unowned : goal.returns-clause-unowned
returns-clause-unowned c = λ none.
    let whole = c.self.invariant.whole in
    subst (λ (h : Held). AreUnowned h.spots) c.self.view_is
    (unowned (all_located c.self.inside.kept.tables.spots.items) c.self.invariant.closed (sym whole.by_sort.has_tuples ∙ none))
