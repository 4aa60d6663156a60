use Rattle.std.proofs.Common.{◌≡◌, ◌++◌, List, drop}
use Rattle.ix_base.specs.declared.content.OwnName.{OwnName}
use Rattle.instance_lines.specs.Tables.{values_of}
use Rattle.instance_lines.proofs.names.add_all.Given as goal

abbrev pub invariant-loop-name : goal.invariant-loop-name
invariant-loop-name l = (more : List OwnName) → values_of l.names.items ++ (drop l.name-index l.more ++ more) ≡ values_of l.initial.names.items ++ (l.more ++ more)
