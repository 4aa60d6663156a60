use Rattle.std.proofs.Common.{refl}
use Rattle.ix_base.specs.WrittenMarkup.{nothing, written}
use Rattle.instance_lines.specs.Canonical.{measure_markup, measures_markup}
use Rattle.instance_lines.proofs.Steps.{step}
use Rattle.instance_lines.proofs.unit.push_measures.Goals as goal

pub loop-measure-preserved : goal.loop-measure-preserved
loop-measure-preserved c more =
    let spaces = c.args.prefixes.now in
    step (λ ns. written (measures_markup spaces ns)) (written (measure_markup spaces c.measure-item.result nothing)) c.args.measures.now c.loop-measure.measure-index c.measure-item.result _ _ _ more
    c.loop-measure-test.true c.measure-item.is (λ ys. refl)
    (λ m. rw (c.in_ok-push_element.ensures, c.as_str.ensures, c.in_ok-name.ensures) refl) (c.loop-measure.invariant more)
