use Rattle.std.proofs.Common.{◌≡◌, take}
use Rattle.instance_lines.specs.Tables.{values_of}
use Rattle.instance_lines.proofs.sort.views_of.Given as goal

abbrev pub invariant-loop-text : goal.invariant-loop-text
invariant-loop-text l = values_of l.views.items ≡ take l.text-index l.texts
