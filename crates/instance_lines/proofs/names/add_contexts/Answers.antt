use Rattle.std.proofs.Common.{refl, append_assoc, ◌∙◌, ◌++◌}
use Rattle.instance_lines.specs.Canonical.{context_names}
use Rattle.instance_lines.proofs.Gathered.{gathered}
use Rattle.instance_lines.proofs.Steps.{none_left}
use Rattle.instance_lines.specs.Tables.{values_of}
use Rattle.std.specs.Prelude.{flat_map}
use Rattle.instance_lines.proofs.names.add_contexts.Goals as goal

pub loop-context-preserved : goal.loop-context-preserved
loop-context-preserved c more =
    gathered context_names c.args.contexts.now c.loop-context.context-index c.context-item.result _ _ _ more c.loop-context-test.true c.context-item.is
    (λ m. rw (c.in_ok-add_dims-2.ensures, c.in_ok-add_dims.ensures, c.as_slice.ensures, c.as_slice-in-loop-context.ensures, append_assoc) refl)
    (c.loop-context.invariant more)

pub returns : goal.returns
returns c more =
    none_left (λ l. values_of c.loop-context.names.items ++ (flat_map context_names l ++ more)) c.args.contexts.now c.loop-context.context-index
    c.loop-context-test.false
    ∙ c.loop-context.invariant more
