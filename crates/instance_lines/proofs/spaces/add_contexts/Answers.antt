use Rattle.std.proofs.Common.{refl, append_assoc, ◌∙◌, ◌++◌}
use Rattle.std.specs.Prelude.{flat_map}
use Rattle.instance_lines.specs.Canonical.{context_names}
use Rattle.instance_lines.proofs.SpaceLaws.{step-spaces}
use Rattle.instance_lines.proofs.Steps.{none_left}
use Rattle.instance_lines.specs.Tables.{values_of, own_spaces}
use Rattle.ix_base.specs.Once.{in_order}
use Rattle.ix_base.specs.SortedLists.{text_cmp}
use Rattle.instance_lines.proofs.spaces.add_contexts.Goals as goal

pub loop-context-preserved : goal.loop-context-preserved
loop-context-preserved c more =
    step-spaces (flat_map context_names) context_names c.args.contexts.now c.loop-context.context-index c.context-item.result _ _ _ more
    c.loop-context-test.true c.context-item.is (λ ys. refl)
    (λ m. rw (c.in_ok-add_dims-2.ensures, c.in_ok-add_dims.ensures, c.as_slice.ensures, c.as_slice-in-loop-context.ensures, append_assoc) refl)
    (c.loop-context.invariant more)

pub returns : goal.returns
returns c more =
    none_left (λ l. in_order text_cmp (values_of c.loop-context.spaces.items ++ own_spaces (flat_map context_names l ++ more))) c.args.contexts.now c.loop-context.context-index
    c.loop-context-test.false
    ∙ c.loop-context.invariant more
