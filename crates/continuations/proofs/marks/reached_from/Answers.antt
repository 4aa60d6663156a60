use Rattle.std.proofs.Common.{◌∙◌, ap, arith, sym, subst, length}
use Rattle.continuations.specs.Walks.{AreReached}
use Rattle.continuations.proofs.Marking.{written-back}
use Rattle.continuations.proofs.marks.reached_from.Goals as goal

pub returns-clause-marked : goal.returns-clause-marked
returns-clause-marked c =
    subst (AreReached c.args.nexts.now c.args.first (length c.args.nexts.now))
    (sym (written-back c.in_ok-marks.marks.len c.mark_all.new.marks c.in_ok-marks.marks.items (c.mark_all.auto.marks ∙ c.as_mut_slice.ensures.len))) c.mark_all.ensures

pub returns-clause-len : goal.returns-clause-len
returns-clause-len c =
    omega (
      arith,
      ap length (written-back c.in_ok-marks.marks.len c.mark_all.new.marks c.in_ok-marks.marks.items (c.mark_all.auto.marks ∙ c.as_mut_slice.ensures.len)),
      c.mark_all.auto.marks,
      c.as_mut_slice.ensures.len,
      c.in_ok-marks.ensures.len,
    )
