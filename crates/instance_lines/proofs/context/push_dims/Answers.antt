use Rattle.ix_base.specs.WrittenMarkup.{nothing, written}
use Rattle.instance_lines.specs.Canonical.{dim_markup, each_markup}
use Rattle.instance_lines.proofs.MarkupLaws.{dims_step}
use Rattle.instance_lines.proofs.Steps.{step}
use Rattle.instance_lines.proofs.context.push_dims.Goals as goal

pub loop-dim-preserved : goal.loop-dim-preserved
loop-dim-preserved c more =
    let spaces = c.args.prefixes.now in
    step (λ ds. written (each_markup (dim_markup spaces) ds nothing)) (written (dim_markup spaces c.dim-item.result nothing)) c.args.dims.now c.loop-dim.dim-index c.dim-item.result _ _ _ more
    c.loop-dim-test.true c.dim-item.is (dims_step spaces c.dim-item.result more) c.in_ok-push_dim.ensures (c.loop-dim.invariant more)
