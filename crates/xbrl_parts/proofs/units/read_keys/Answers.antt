use Rattle.std.proofs.Common.{◌∙◌, ap, sym, map, option_map, ◌++◌}
use Rattle.ix_base.specs.ContextForm.{own_held}
use Rattle.xbrl_parts.specs.Model.{key_own}
use Rattle.xbrl_parts.proofs.EachLaws.{each-first, each-last, each-past, each-read, each-unread}
use Rattle.xbrl_parts.proofs.units.read_keys.Goals as goal

pub loop-node-preserved-in_default : goal.loop-node-preserved-in_default
loop-node-preserved-in_default c =
    ap (option_map (λ ks. map key_own c.loop-node.keys.items ++ ks))
    (each-past key_own own_held c.args.nodes.now c.loop-node.node-index c.node-item.result c.loop-node-test.true c.node-item.is c.in_default.field-0 c.in_default.is)
    ∙ c.loop-node.invariant

pub returns-in_default-key_held : goal.returns-in_default-key_held
returns-in_default-key_held c =
    sym (ap (option_map (λ ks. map key_own c.loop-node.keys.items ++ ks))
    (each-unread key_own own_held c.args.nodes.now c.loop-node.node-index c.node-item.result c.loop-node-test.true c.node-item.is c.in-Elem.e c.in-Elem.is
    (sym c.key_held.ensures ∙ ap (option_map key_own) c.in_default-key_held.is)))
    ∙ c.loop-node.invariant

pub loop-node-preserved : goal.loop-node-preserved
loop-node-preserved c =
    each-read key_own own_held c.args.nodes.now c.loop-node.node-index c.node-item.result c.loop-node-test.true c.node-item.is c.in-Elem.e c.in-Elem.is c.in-Some.key
    (sym (ap (option_map key_own) c.in-Some.is) ∙ c.key_held.ensures) c.loop-node.keys.items c.push.new.self.items c.in_ok-push.ensures.items
    ∙ c.loop-node.invariant

pub loop-node-init : goal.loop-node-init
loop-node-init c = each-first key_own own_held c.args.nodes.now c.new-keys.result.items c.new-keys.ensures.items

pub returns : goal.returns
returns c = each-last key_own own_held c.args.nodes.now c.loop-node.keys.items c.loop-node.node-index c.loop-node-test.false c.loop-node.invariant
