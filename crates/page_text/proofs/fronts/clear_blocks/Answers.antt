use Rattle.std.proofs.Common.{◌≡◌, ◌+◌, ◌-◌, arith, take, drop, sym, ap, ◌∙◌}
use Rattle.std.specs.List.{list_all}
use Rattle.page_text.specs.Plain.{is_clear}
use Rattle.page_text.proofs.PlainRuns.{all-joined}
use Rattle.page_text.proofs.fronts.clear_blocks.Goals as goal

-- one block more
pub loop-at-preserved : goal.loop-at-preserved
loop-at-preserved c =
    let at = c.loop-at.at in
    let size : at + 64 - at ≡ 64 = omega arith in (
      omega arith,
      all-joined at 64 _ c.loop-at.invariant.1
          (ap (λ n. list_all is_clear (take n (drop at c.args.bytes.now))) (sym size) ∙ sym c.are_clear.ensures ∙ c.if-are_clear.true),
    )
