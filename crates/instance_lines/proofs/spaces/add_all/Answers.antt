use Rattle.std.proofs.Common.{refl, ◌∷◌, [], ◌∙◌, ◌++◌}
use Rattle.instance_lines.proofs.SpaceLaws.{step-spaces}
use Rattle.instance_lines.proofs.Steps.{none_left}
use Rattle.instance_lines.specs.Tables.{values_of, own_spaces}
use Rattle.ix_base.specs.Once.{in_order}
use Rattle.ix_base.specs.SortedLists.{text_cmp}
use Rattle.instance_lines.proofs.spaces.add_all.Goals as goal

pub loop-name-preserved : goal.loop-name-preserved
loop-name-preserved c more =
    step-spaces (λ ns. ns) (λ n. n ∷ []) c.args.names.now c.loop-name.name-index c.name-item.result _ _ _ more
    c.loop-name-test.true c.name-item.is (λ ys. refl) c.in_ok-add.ensures (c.loop-name.invariant more)

pub returns : goal.returns
returns c more =
    none_left (λ l. in_order text_cmp (values_of c.loop-name.spaces.items ++ own_spaces (l ++ more))) c.args.names.now c.loop-name.name-index
    c.loop-name-test.false
    ∙ c.loop-name.invariant more
