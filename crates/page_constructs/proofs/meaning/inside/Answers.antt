use Rattle.std.proofs.Common.{arith}
use Rattle.page_constructs.proofs.Around.{cut-front, cut-back}
use Rattle.page_constructs.proofs.meaning.inside.Goals as goal

pub range-requires-clause-start_boundary : goal.range-requires-clause-start_boundary
range-requires-clause-start_boundary c = λ pos.
    let front = c.if-text-front.false in
    let back = c.if-text-front-2.false in
    cut-front c.args.front.now c.args.back.now c.args.text.now c.requires c.utf8.text (omega (arith, front, back)) c.utf8.front

pub range-requires-clause-end_boundary : goal.range-requires-clause-end_boundary
range-requires-clause-end_boundary c =
    let front = c.if-text-front.false in
    let back = c.if-text-front-2.false in
    cut-back c.args.front.now c.args.back.now c.args.text.now c.requires c.utf8.text (omega (arith, front, back)) c.utf8.back
