use Rattle.std.proofs.Common.{◌≡◌, take}
use Rattle.instance_lines.specs.Tables.{values_of}
use Rattle.instance_lines.proofs.sort.copies_of.Given as goal

abbrev pub invariant-loop-text : goal.invariant-loop-text
invariant-loop-text l = l.copies.items ≡ values_of (take l.text-index l.texts)
