use Rattle.page_plain.proofs.NumberedLaws.{numbered_attrs, within_name}
use Rattle.page_plain.proofs.page.push_open.Goals as goal

pub push_default-requires : goal.push_default-requires
push_default-requires c = within_name c.args.around c.args.prefixes.now.spaces c.args.element.now c.requires

pub push_declared-requires : goal.push_declared-requires
push_declared-requires c = numbered_attrs c.args.prefixes.now.spaces c.args.element.now c.requires.0
