use Rattle.std.proofs.Common.{arith, ap, ◌∙◌}
use Rattle.targets.specs.Breaches.{tags_in}
use Rattle.page_session.proofs.ReadLaws.{tags-split}
use Rattle.page_session.proofs.reading.count_tags.Goals as goal

-- a block more is counted
pub parts-preserved : goal.parts-preserved
parts-preserved c =
    let rest = c.parts.rest.now in
    let front = c.split_at.result.0.now in
    let back = c.split_at.result.1.now in
    let both = tags-split 192 rest in
    let few = ap tags_in c.split_at.ensures.front in
    let more = ap tags_in c.split_at.ensures.back in
    let counted = c.from-count.ensures ∙ c.tags_of_block.ensures.value in
    let most = c.tags_of_block.ensures.most in
    let on = c.parts.invariant in (
      omega (arith, both, few, more, counted, on.0),
      omega (arith, most, on.1, c.from-count.ensures, c.split_at.ensures.front_len, c.split_at.ensures.back_len),
    )
