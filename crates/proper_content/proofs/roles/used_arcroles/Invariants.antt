use Rattle.std.proofs.Common.{◌≡◌, map, take}
use Rattle.instance_lines.specs.Tables.{values_of}
use Rattle.proper_content.proofs.roles.used_arcroles.Given as goal

abbrev pub invariant-loop-arc : goal.invariant-loop-arc
invariant-loop-arc l = values_of l.roles.items ≡ map (λ a. a.arcrole) (values_of (take l.arc-index l.arcs))
