use Rattle.std.proofs.Common.{None, ◌∙◌, arith}
use Rattle.page_constructs.specs.Constructs.{after_tag}
use Rattle.page_constructs.proofs.SizeLaws.{past-byte}
use Rattle.page_constructs.proofs.size.next_outside.Goals as goal

pub bytes-preserved : goal.bytes-preserved
bytes-preserved c =
    let on = c.bytes.invariant.0 in (
      omega (arith, on),
      λ more. c.bytes.invariant.1 more
          ∙ past-byte (after_tag None) (after_tag None) c.args.text.now c.bytes.at c.bytes-test.true (λ cs. c.turns.ensures c.if-turns.false cs) more,
    )
