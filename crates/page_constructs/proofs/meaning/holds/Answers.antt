use Rattle.std.proofs.lemmas.Str.Pattern.{contains_text}
use Rattle.page_constructs.proofs.Around.{holds-is}
use Rattle.page_constructs.proofs.meaning.holds.Goals as goal

pub returns : goal.returns
returns c =
    let found = contains_text c.contains.result c.args.part.now c.args.text.now c.contains.ensures.cases in
    holds-is c.args.part.now c.args.text.now c.contains.result c.requires found.0 found.1
