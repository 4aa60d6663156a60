use Rattle.std.proofs.Common.{◌∙◌, ◌++◌, ap, sym, option_map}
use Rattle.ix_base.specs.Steps.{each}
use Rattle.instance_tree.proofs.NamedSteps.{named-chars, named-other, named-read, named-unread}
use Rattle.instance_tree.proofs.children.read_named.Goals as goal

pub loop-node-preserved-in_default : goal.loop-node-preserved-in_default
loop-node-preserved-in_default w c =
    let f = w.R.Reader.reads c.args.reader.now in
    ap (λ es. option_map (λ ps. c.loop-node.parts ++ ps) (each f es))
    (named-chars f c.args.ns.now c.args.local.now c.args.nodes.now c.loop-node.node-index c.node-item.result c.loop-node-test.true c.node-item.is
    c.in_default.field-0 c.in_default.is)
    ∙ c.loop-node.invariant

pub loop-node-preserved-then-not-is_of : goal.loop-node-preserved-then-not-is_of
loop-node-preserved-then-not-is_of w c =
    let f = w.R.Reader.reads c.args.reader.now in
    ap (λ es. option_map (λ ps. c.loop-node.parts ++ ps) (each f es))
    (named-other f c.args.ns.now c.args.local.now c.args.nodes.now c.loop-node.node-index c.node-item.result c.loop-node-test.true c.node-item.is
    c.in-Elem.e c.in-Elem.is c.is_of.result c.is_of.ensures c.if-not-is_of.true)
    ∙ c.loop-node.invariant

pub returns-in_default-2 : goal.returns-in_default-2
returns-in_default-2 w c =
    let f = w.R.Reader.reads c.args.reader.now in
    sym (ap (option_map (λ ps. c.loop-node.parts ++ ps))
    (named-unread f c.args.ns.now c.args.local.now c.args.nodes.now c.loop-node.node-index c.node-item.result c.loop-node-test.true c.node-item.is
    c.in-Elem.e c.in-Elem.is c.is_of.result c.is_of.ensures c.if-not-is_of.false (sym c.in_default-2.is ∙ c.in_ok-part.ensures)))
    ∙ c.loop-node.invariant

pub loop-node-preserved : goal.loop-node-preserved
loop-node-preserved w c =
    let f = w.R.Reader.reads c.args.reader.now in
    named-read f c.args.ns.now c.args.local.now c.args.nodes.now c.loop-node.node-index c.node-item.result c.loop-node-test.true c.node-item.is
    c.in-Elem.e c.in-Elem.is c.is_of.result c.is_of.ensures c.if-not-is_of.false c.in-Some.part (sym c.in-Some.is ∙ c.in_ok-part.ensures)
    c.loop-node.parts c.push.new.self c.in_ok-push.ensures.ok
    ∙ c.loop-node.invariant
