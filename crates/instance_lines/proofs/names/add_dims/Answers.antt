use Rattle.std.proofs.Common.{◌∙◌, ap, ◌∷◌, ◌++◌}
use Rattle.instance_lines.specs.Canonical.{dim_names}
use Rattle.instance_lines.specs.Tables.{values_of}
use Rattle.instance_lines.proofs.Gathered.{gained, gathered}
use Rattle.instance_lines.proofs.Steps.{none_left}
use Rattle.std.specs.Prelude.{flat_map}
use Rattle.instance_lines.proofs.names.add_dims.Goals as goal

pub loop-dim-preserved : goal.loop-dim-preserved
loop-dim-preserved c more =
    let x = c.dim-item.result in
    gathered dim_names c.args.dims.now c.loop-dim.dim-index x _ _ _ more c.loop-dim-test.true c.dim-item.is
    (λ m. gained _ _ _ c.in_ok-push-2.ensures.items m ∙ gained _ _ _ c.in_ok-push.ensures.items (c.member_name.result.now ∷ m)
    ∙ ap (λ l. values_of c.loop-dim.names.items ++ x.dimension ∷ (l ++ m)) c.member_name.ensures)
    (c.loop-dim.invariant more)

pub returns : goal.returns
returns c more =
    none_left (λ l. values_of c.loop-dim.names.items ++ (flat_map dim_names l ++ more)) c.args.dims.now c.loop-dim.dim-index
    c.loop-dim-test.false
    ∙ c.loop-dim.invariant more
