use Rattle.std.proofs.Common.{◌≡◌, ◌+◌, ◌-◌, ◌++◌, arith, take, drop, sym, ap, ◌∙◌}
use Rattle.std.specs.List.{list_all}
use Rattle.page_constructs.specs.Constructs.{after_tag}
use Rattle.page_constructs.specs.Searches.{further}
use Rattle.page_constructs.specs.Stops.{double, flips, is_plain}
use Rattle.page_constructs.proofs.SizeLaws.{past-tag}
use Rattle.page_constructs.proofs.size.parts.behind_parts.Goals as goal

-- one block more
pub parts-preserved : goal.parts-preserved
parts-preserved c =
    let at = c.parts.at in
    let text = c.args.text.now in
    let size : at + 16 - at ≡ 16 = omega arith in
    let all = ap (λ n. list_all is_plain (take n (drop at text))) (sym size) ∙ sym c.are_plain.ensures ∙ c.if-are_plain.true in
    let inside = ap (λ n. flips c.parts.inside (take n (drop at text))) (sym size) ∙ sym c.is_inside-inside.ensures in
    let room = c.if-text-at-ge-BLOCK.true in
    let within = c.parts-test.true in
    λ more. c.parts.invariant more ∙ past-tag 16 text at c.parts.inside (omega (arith, room, within)) all more
    ∙ ap (λ q. further (at + 16) (after_tag (double q) (drop (at + 16) (text ++ more)))) inside
