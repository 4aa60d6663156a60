use Rattle.std.proofs.Common.{Some, ◌∙◌, arith}
use Rattle.page_constructs.specs.Constructs.{after_tag}
use Rattle.page_constructs.proofs.SizeLaws.{past-byte}
use Rattle.page_constructs.proofs.size.next_close.Goals as goal

pub bytes-preserved : goal.bytes-preserved
bytes-preserved c =
    let on = c.bytes.invariant.0 in (
      omega (arith, on),
      λ more. c.bytes.invariant.1 more
          ∙ past-byte (after_tag (Some c.args.closing)) (after_tag (Some c.args.closing)) c.args.text.now c.bytes.at c.bytes-test.true (λ cs. c.turns.ensures c.if-turns.false cs) more,
    )
