use Rattle.std.proofs.Common.{◌∙◌, ap, refl, ◌∷◌, ◌++◌}
use Rattle.std.specs.Prelude.{flat_map}
use Rattle.ix_base.specs.Once.{in_order}
use Rattle.ix_base.specs.SortedLists.{text_cmp}
use Rattle.instance_lines.specs.Canonical.{dim_names}
use Rattle.instance_lines.specs.Tables.{own_spaces, values_of}
use Rattle.instance_lines.proofs.SpaceLaws.{step-spaces}
use Rattle.instance_lines.proofs.Steps.{none_left}
use Rattle.instance_lines.proofs.spaces.add_dims.Goals as goal

pub loop-dim-preserved : goal.loop-dim-preserved
loop-dim-preserved c more =
    let x = c.dim-item.result in
    step-spaces (flat_map dim_names) dim_names c.args.dims.now c.loop-dim.dim-index x _ _ _ more
    c.loop-dim-test.true c.dim-item.is (λ ys. refl)
    (λ m. c.in_ok-add-2.ensures m ∙ c.in_ok-add.ensures (c.member_name.result.now ∷ m)
    ∙ ap (λ l. in_order text_cmp (values_of c.loop-dim.spaces.items ++ own_spaces (x.dimension ∷ (l ++ m)))) c.member_name.ensures)
    (c.loop-dim.invariant more)

pub returns : goal.returns
returns c more =
    none_left (λ l. in_order text_cmp (values_of c.loop-dim.spaces.items ++ own_spaces (flat_map dim_names l ++ more))) c.args.dims.now c.loop-dim.dim-index
    c.loop-dim-test.false
    ∙ c.loop-dim.invariant more
