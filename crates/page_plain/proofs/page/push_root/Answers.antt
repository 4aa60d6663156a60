use Rattle.page_plain.proofs.NumberedLaws.{within_root}
use Rattle.page_plain.proofs.page.push_root.Goals as goal

pub push_open-requires : goal.push_open-requires
push_open-requires c = within_root c.start.result c.args.prefixes.now.spaces c.args.root.now c.start.ensures.number c.requires
