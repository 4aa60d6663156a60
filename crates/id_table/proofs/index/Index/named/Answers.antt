use Rattle.std.proofs.Common.{subst}
use Rattle.id_table.specs.Gathered.{AreGathered}
use Rattle.id_table.specs.Model.{Held}
use Rattle.id_table.proofs.index.Index.named.Goals as goal

pub returns : goal.returns
returns c = subst (λ (h : Held). AreGathered h.spots c.self.inside.kept.tables.lists.named) c.self.view_is c.self.invariant.whole.by_sort.named
