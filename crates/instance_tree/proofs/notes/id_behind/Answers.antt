use Rattle.std.proofs.Common.{lit<}
use Rattle.std.proofs.lemmas.Str.Pattern.{strip_prefix_char}
use Rattle.instance_tree.proofs.EndLaws.{id-behind}
use Rattle.instance_tree.proofs.notes.id_behind.Goals as goal

pub returns : goal.returns
returns c = id-behind c.args.href.now c.strip_prefix.result (strip_prefix_char 35 c.args.href.now c.strip_prefix.result c.strip_prefix.ensures.cases (lit< tt))
