use Rattle.page_constructs.proofs.ValueLaws.{out-none}
use Rattle.page_constructs.proofs.meaning.value.allowed.Goals as goal

pub returns-in_default-2 : goal.returns-in_default-2
returns-in_default-2 c = out-none c.args.number c.in_default.ensures.cases
