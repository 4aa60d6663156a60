use Rattle.std.proofs.Common.{◌≡◌, ◌++◌, List, drop}
use Rattle.std.specs.Prelude.{flat_map}
use Rattle.ix_base.specs.declared.content.OwnName.{OwnName}
use Rattle.ix_base.specs.Once.{in_order}
use Rattle.ix_base.specs.SortedLists.{text_cmp}
use Rattle.instance_lines.specs.Canonical.{context_names}
use Rattle.instance_lines.specs.Tables.{own_spaces, values_of}
use Rattle.instance_lines.proofs.spaces.add_contexts.Given as goal

abbrev pub invariant-loop-context : goal.invariant-loop-context
invariant-loop-context l =
    (more : List OwnName) → in_order text_cmp (values_of l.spaces.items ++ own_spaces (flat_map context_names (drop l.context-index l.contexts) ++ more))
    ≡ in_order text_cmp (values_of l.initial.spaces.items ++ own_spaces (flat_map context_names l.contexts ++ more))
