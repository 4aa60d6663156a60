use Rattle.std.proofs.Common.{◌≡◌, ◌++◌, List, drop}
use Rattle.ix_base.specs.declared.content.OwnName.{OwnName}
use Rattle.ix_base.specs.Once.{in_order}
use Rattle.ix_base.specs.SortedLists.{text_cmp}
use Rattle.instance_lines.specs.Tables.{own_spaces, values_of}
use Rattle.instance_lines.proofs.spaces.add_all.Given as goal

abbrev pub invariant-loop-name : goal.invariant-loop-name
invariant-loop-name l =
    (more : List OwnName) → in_order text_cmp (values_of l.spaces.items ++ own_spaces (drop l.name-index l.names ++ more))
    ≡ in_order text_cmp (values_of l.initial.spaces.items ++ own_spaces (l.names ++ more))
