use Rattle.std.proofs.Common.{◌∙◌}
use Rattle.std.proofs.lemmas.Result.{IfOk-weaker}
use Rattle.instance_lines.proofs.Midnights.{printed_at}
use Rattle.instance_lines.proofs.moment.day_text.Goals as goal

pub returns : goal.returns
returns c =
    IfOk-weaker c.of.result _ _
    (λ t e. e ∙ c.as_str.ensures.value ∙ c.in_ok-day.ensures.ok ∙ printed_at c.day_after.result c.args.days c.day_after.ensures)
    c.of.ensures
