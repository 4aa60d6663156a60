use Rattle.std.proofs.Common.{take}
use Rattle.ix_base.specs.Asks.{asks}
use Rattle.ix_base.specs.LocatedElements.{base_in}
use Rattle.facts.specs.ItemValue.{IsItem}
use Rattle.id_table.specs.Tables.{all_located}
use Rattle.target_contents.specs.Faults.{AreOfItems}
use Rattle.target_contents.proofs.values.faults_among.Given as goal

-- the rules that those before here break are added
abbrev pub invariant-loop-spot : goal.invariant-loop-spot
invariant-loop-spot l = AreOfItems (IsItem (base_in l.set.bases) (asks l.set.elements)) (all_located (take l.spot-index l.spots)) l.found
