use Rattle.page_constructs.proofs.Parting.{strip-behind}
use Rattle.page_constructs.proofs.meaning.span.behind_front.Goals as goal

pub returns : goal.returns
returns c = strip-behind c.args.front.now c.args.text.now c.strip_prefix.result c.strip_prefix.ensures.cases
