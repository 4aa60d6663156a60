use Rattle.std.proofs.Common.{◌∙◌, ap, sym, ◌++◌, [], ◌∷◌, take, arith}
use Rattle.instance_lines.specs.Tables.{values_of}
use Rattle.instance_lines.proofs.Gathered.{values-more}
use Rattle.instance_lines.proofs.Steps.{all_taken}
use Rattle.instance_lines.proofs.sort.copies_of.Goals as goal

pub loop-text-preserved : goal.loop-text-preserved
loop-text-preserved c =
    c.in_ok-push.ensures.items ∙ ap (λ l. l ++ c.in_ok-of.field-0 ∷ []) c.loop-text.invariant
    ∙ ap (λ t. values_of (take c.loop-text.text-index c.args.texts.now) ++ t ∷ []) c.in_ok-of.ensures
    ∙ sym (values-more c.args.texts.now c.loop-text.text-index (record { ref_ptr = (0, 0); now = [] }) c.loop-text-test.true)

pub returns : goal.returns
returns c = c.loop-text.invariant ∙ ap values_of (all_taken c.args.texts.now c.loop-text.text-index (omega arith))
