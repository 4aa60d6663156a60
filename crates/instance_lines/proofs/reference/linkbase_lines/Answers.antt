use Rattle.std.proofs.Common.{◌∙◌}
use Rattle.std.proofs.lemmas.Result.{IfOk-weaker}
use Rattle.instance_lines.specs.Canonical.{linkbase_markup}
use Rattle.instance_lines.proofs.Sorting.{once_lines}
use Rattle.instance_lines.proofs.reference.linkbase_lines.Goals as goal

pub returns : goal.returns
returns c = IfOk-weaker c.keys_once.result _ _ (λ v e. e ∙ once_lines linkbase_markup c.args.linkbases.now) c.keys_once.ensures
