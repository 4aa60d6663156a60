use Rattle.std.proofs.Common.{◌∙◌}
use Rattle.proper_content.proofs.ListLaws.{lines_never_fall}
use Rattle.proper_content.proofs.lines.facts_never_fall.Goals as goal

pub returns : goal.returns
returns c = c.in_ok-answer.ensures ∙ lines_never_fall _ _ (c.as_slice.ensures.value ∙ c.in_ok-lines.ensures)
