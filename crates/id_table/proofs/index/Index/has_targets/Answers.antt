use Rattle.std.proofs.Common.{◌∙◌, ap}
use Rattle.std.specs.List.{list_any}
use Rattle.id_table.specs.Model.{Held, has_own_target}
use Rattle.id_table.proofs.index.Index.has_targets.Goals as goal

pub returns : goal.returns
returns c = c.self.invariant.whole.by_sort.has_targets ∙ ap (λ (h : Held). list_any has_own_target h.spots) c.self.view_is
