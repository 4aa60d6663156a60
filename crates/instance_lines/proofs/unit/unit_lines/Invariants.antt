use Rattle.std.proofs.Common.{◌≡◌, map, take, List, ℕ}
use Rattle.ix_base.specs.declared.content.Unit.{Unit as UnitContent}
use Rattle.instance_lines.specs.Canonical.{unit_markup, line}
use Rattle.instance_lines.specs.declared.sort.Keyed.{Keyed}
use Rattle.instance_lines.proofs.unit.unit_lines.Given as goal

abbrev pub invariant-loop-unit : goal.invariant-loop-unit
invariant-loop-unit l =
    l.keyed.items ≡ map {B = Keyed (List ℕ)} (λ (x : UnitContent). record { key = x.id; item = line (unit_markup l.prefixes x) })
    (take l.unit-index l.units)
