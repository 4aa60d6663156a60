use Rattle.std.proofs.Common.{arith}
use Rattle.std.proofs.lemmas.Grind.{common_steps}
use Rattle.scale_sign.proofs.Values.{whole-none, whole-some}
use Rattle.scale_sign.proofs.writer.write_whole.Goals as goal

pub returns-then-end-at-clause-wrote : goal.returns-then-end-at-clause-wrote
returns-then-end-at-clause-wrote c =
    let e = whole-none c.args.first.now c.args.second.now _ _ c.args.zeros _ c.stripped-first.ensures.value c.stripped_after-second.ensures.value c.zeros_beside-zeros.ensures.value (omega arith) in
    grind (arith, common_steps)

pub returns-else-end-at-clause-wrote : goal.returns-else-end-at-clause-wrote
returns-else-end-at-clause-wrote c =
    let e = whole-some c.args.first.now c.args.second.now _ _ c.args.zeros _ c.stripped-first.ensures.value c.stripped_after-second.ensures.value c.zeros_beside-zeros.ensures.value (omega arith) in
    grind (arith, common_steps)
