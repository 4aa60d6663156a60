use Rattle.std.proofs.lemmas.Result.{IfOk-weaker}
use Rattle.std.proofs.Common.{subst, sym}
use Rattle.instance_lines.proofs.WritableLaws.{writable-arranged}
use Rattle.instance_lines.specs.Writable.{IsWritable}
use Rattle.target_contents.proofs.contents.content_of.Goals as goal

pub returns-clause-written : goal.returns-clause-written
returns-clause-written c =
    IfOk-weaker c.arrange_with_lines.result _ _ (λ p h. subst IsWritable (sym h) (writable-arranged c.in_ok-content.content c.in_ok-content.ensures.writable)) c.arrange_with_lines.ensures.content
