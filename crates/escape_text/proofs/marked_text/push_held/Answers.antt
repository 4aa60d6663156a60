use Rattle.std.proofs.Common.{true}
use Rattle.ix_base.specs.declared.tree.Spot.{out-Spot}
use Rattle.escape_text.proofs.WithinLaws.{numbered-spot, within_held}
use Rattle.escape_text.proofs.marked_text.push_held.Goals as goal

pub push_nodes-requires : goal.push_nodes-requires
push_nodes-requires c =
    within_held (record { alloc = c.args.alloc; base = c.args.base; outer = c.start.result; by_number = true }) (out-Spot c.args.spot.now).element.now
    c.start.ensures.number (numbered-spot c.args.spot.now c.requires)
