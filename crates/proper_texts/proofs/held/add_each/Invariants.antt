use Rattle.std.proofs.Common.{◌≡◌, ◌++◌, take}
use Rattle.instance_lines.specs.Tables.{values_of}
use Rattle.proper_texts.proofs.held.add_each.Given as goal

abbrev pub invariant-loop-thing : goal.invariant-loop-thing
invariant-loop-thing g l = values_of l.all.items ≡ values_of l.initial.all.items ++ take l.thing-index l.things
