use Rattle.std.proofs.Common.{◌≡◌, ◌+◌, ◌-◌, arith, take, drop, sym, ap, ◌∙◌}
use Rattle.std.specs.List.{list_all}
use Rattle.page_constructs.specs.Stops.{is_text}
use Rattle.page_constructs.proofs.SizeLaws.{past-text}
use Rattle.page_constructs.proofs.size.run.behind_blocks.Goals as goal

-- one block more
pub parts-preserved : goal.parts-preserved
parts-preserved c =
    let at = c.parts.at in
    let on = c.parts.invariant.0 in
    let size : at + 64 - at ≡ 64 = omega arith in
    let all = ap (λ n. list_all is_text (take n (drop at c.args.text.now))) (sym size) ∙ sym c.are_text.ensures ∙ c.if-are_text.true in
    let room = c.if-text-at-ge-BLOCK.true in
    let within = c.parts-test.true in
    (omega (arith, on), λ more. c.parts.invariant.1 more ∙ past-text 64 c.args.text.now at (omega (arith, room, within)) all more)
