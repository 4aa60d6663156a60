use Rattle.std.proofs.Common.{◌≡◌, ◌++◌, List, drop}
use Rattle.std.specs.Prelude.{flat_map}
use Rattle.ix_base.specs.declared.content.OwnName.{OwnName}
use Rattle.instance_lines.specs.Canonical.{context_names}
use Rattle.instance_lines.specs.Tables.{values_of}
use Rattle.instance_lines.proofs.names.add_contexts.Given as goal

abbrev pub invariant-loop-context : goal.invariant-loop-context
invariant-loop-context l =
    (more : List OwnName) → values_of l.names.items ++ (flat_map context_names (drop l.context-index l.contexts) ++ more) ≡ values_of l.initial.names.items ++ (flat_map context_names l.contexts ++ more)
