use Rattle.std.proofs.Common.{◌∙◌, ap, sym, map, option_map, ◌++◌}
use Rattle.ix_base.specs.ContextForm.{dim_of}
use Rattle.xbrl_parts.specs.Model.{dim_seen}
use Rattle.xbrl_parts.proofs.EachLaws.{each-first, each-last, each-past, each-read, each-unread}
use Rattle.xbrl_parts.proofs.dims.read_dims.Goals as goal

pub loop-node-preserved-in_default : goal.loop-node-preserved-in_default
loop-node-preserved-in_default c =
    ap (option_map (λ ds. map dim_seen c.loop-node.dims.items ++ ds))
    (each-past dim_seen dim_of c.args.nodes.now c.loop-node.node-index c.node-item.result c.loop-node-test.true c.node-item.is c.in_default.field-0 c.in_default.is)
    ∙ c.loop-node.invariant

pub returns-in_default-dim_of : goal.returns-in_default-dim_of
returns-in_default-dim_of c =
    sym (ap (option_map (λ ds. map dim_seen c.loop-node.dims.items ++ ds))
    (each-unread dim_seen dim_of c.args.nodes.now c.loop-node.node-index c.node-item.result c.loop-node-test.true c.node-item.is c.in-Elem.e c.in-Elem.is
    (sym c.dim_of.ensures ∙ ap (option_map dim_seen) c.in_default-dim_of.is)))
    ∙ c.loop-node.invariant

pub loop-node-preserved : goal.loop-node-preserved
loop-node-preserved c =
    each-read dim_seen dim_of c.args.nodes.now c.loop-node.node-index c.node-item.result c.loop-node-test.true c.node-item.is c.in-Elem.e c.in-Elem.is c.in-Some.dim
    (sym (ap (option_map dim_seen) c.in-Some.is) ∙ c.dim_of.ensures) c.loop-node.dims.items c.push.new.self.items c.in_ok-push.ensures.items
    ∙ c.loop-node.invariant

pub loop-node-init : goal.loop-node-init
loop-node-init c = each-first dim_seen dim_of c.args.nodes.now c.new-dims.result.items c.new-dims.ensures.items

pub returns : goal.returns
returns c = each-last dim_seen dim_of c.args.nodes.now c.loop-node.dims.items c.loop-node.node-index c.loop-node-test.false c.loop-node.invariant
