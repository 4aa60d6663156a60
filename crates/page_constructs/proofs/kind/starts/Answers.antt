use Rattle.std.proofs.Common.{sym, ◌∙◌}
use Rattle.page_constructs.proofs.SizeLaws.{starts_bytes}
use Rattle.page_constructs.proofs.kind.starts.Goals as goal

pub returns-in-Some : goal.returns-in-Some
returns-in-Some c = sym (starts_bytes c.args.front.now c.args.text.now ∙ c.in-Some.ensures.cases.0)

pub returns-in-None : goal.returns-in-None
returns-in-None c = sym (starts_bytes c.args.front.now c.args.text.now ∙ c.in-None.ensures.cases)
