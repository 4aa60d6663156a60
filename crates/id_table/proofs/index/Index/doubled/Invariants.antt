use Rattle.std.proofs.Common.{drop}
use Rattle.std.specs.List.{flat_map}
use Rattle.ix_base.proofs.FrontLemmas.{Grows}
use Rattle.id_table.specs.Model.{doubled_at}
use Rattle.id_table.specs.Tables.{all_located}
use Rattle.id_table.proofs.index.Index.doubled.Given as goal

-- the breaches of the elements before here are added, and those from here on are left
abbrev pub invariant-loop-spot : goal.invariant-loop-spot
invariant-loop-spot l =
    Grows l.initial.breaches l.breaches (flat_map (doubled_at l.self) (all_located (drop l.spot-index l.spot-items))) (flat_map (doubled_at l.self) l.self.spots)
