use Rattle.instance_lines.specs.Canonical.{item_attrs}
use Rattle.instance_lines.proofs.fact.push_item.Goals as goal

pub returns : goal.returns
returns c = rw (← c.spelled-name.ensures) (c.in_ok-push_value.ensures c.args.out.now (item_attrs c.args.item.now) c.in_ok-push_item_start.ensures)
