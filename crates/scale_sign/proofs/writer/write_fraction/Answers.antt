use Rattle.std.proofs.Common.{arith, sym}
use Rattle.std.proofs.lemmas.Grind.{common_steps}
use Rattle.std.proofs.lemmas.Bool.{eqb-true, eqb-false}
use Rattle.scale_sign.proofs.Values.{fraction-none, fraction-some}
use Rattle.scale_sign.proofs.writer.write_fraction.Goals as goal

pub returns-then-are_empty-clause-wrote : goal.returns-then-are_empty-clause-wrote
returns-then-are_empty-clause-wrote c =
    let e = fraction-none c.args.first.now c.args.second.now _ _ c.args.zeros _ c.trimmed-second.ensures.value c.trimmed_before-first.ensures.value c.zeros_beside-zeros.ensures.value (eqb-true _ _ (sym c.if-are_empty.ensures)) in
    grind (arith, common_steps)

pub returns-else-are_empty-clause-wrote : goal.returns-else-are_empty-clause-wrote
returns-else-are_empty-clause-wrote c =
    let n = eqb-false _ _ (sym c.if-are_empty.ensures) in
    let e = fraction-some c.args.first.now c.args.second.now _ _ c.args.zeros _ c.trimmed-second.ensures.value c.trimmed_before-first.ensures.value c.zeros_beside-zeros.ensures.value (omega arith) in
    grind (arith, common_steps)
