use Rattle.std.proofs.Common.{◌≡◌, map, take}
use Rattle.instance_lines.specs.Tables.{values_of}
use Rattle.proper_content.proofs.gathered.names_of.Given as goal

abbrev pub invariant-loop-thing : goal.invariant-loop-thing
invariant-loop-thing g l = values_of l.names.items ≡ map g.T.Named.name (take l.thing-index l.things)
