use Rattle.std.proofs.Common.{ap, ◌∙◌, ◌==◌, length}
use Rattle.page_constructs.proofs.Parting.{white-none}
use Rattle.page_constructs.proofs.meaning.span.is_white_text.Goals as goal

pub returns : goal.returns
returns c = c.is_empty.ensures ∙ ap (λ t. length t == 0) c.behind_white.ensures ∙ white-none c.args.text.now
