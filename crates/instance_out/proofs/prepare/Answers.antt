use Rattle.std.proofs.Common.{◌∙◌}
use Rattle.std.proofs.lemmas.Result.{IfOk-weaker}
use Rattle.instance_out.proofs.BackLaws.{lines-read_back}
use Rattle.instance_out.proofs.prepare.Goals as goal

pub returns-clause-read_back : goal.returns-clause-read_back
returns-clause-read_back c proper =
    IfOk-weaker c.counted.result _ _ (λ p e. lines-read_back c.args.content.now p proper (e ∙ c.in_ok-lines.ensures)) c.counted.ensures
