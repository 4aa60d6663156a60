use Rattle.std.proofs.Common.{arith}
use Rattle.std.proofs.lemmas.Str.Pattern.{split_once_first}
use Rattle.page_constructs.proofs.CodeNames.{parts-is}
use Rattle.page_constructs.proofs.written.split_name.Goals as goal

pub returns : goal.returns
returns c = parts-is c.args.name.now c.split_once.result (split_once_first 58 c.args.name.now c.split_once.result c.split_once.ensures.cases (omega arith))
