use Rattle.std.proofs.Common.{◌≡◌, map, take}
use Rattle.instance_lines.specs.Elements.{arc_text}
use Rattle.instance_lines.proofs.note.arcs_of.Given as goal

abbrev pub invariant-loop-arc : goal.invariant-loop-arc
invariant-loop-arc l = l.texts.items ≡ map arc_text (take l.arc-index l.arcs)
