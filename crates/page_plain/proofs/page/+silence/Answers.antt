use Rattle.std.proofs.Common.{◌∙◌, ◌+◌, ◌&&◌, ap, sym, drop}
use Rattle.ix_base.specs.Trees.{nodes_of}
use Rattle.page_plain.specs.Parts.{is_silent}
use Rattle.page_plain.proofs.Steps.{silent-step}
use Rattle.page_plain.proofs.page.+silence.Goals as goal

pub are_silent-returns-then-not-gives_nothing : goal.are_silent-returns-then-not-gives_nothing
are_silent-returns-then-not-gives_nothing t c =
    sym (sym c.loop-node.invariant ∙ silent-step c.args.nodes.now c.loop-node.node-index c.node-item.result c.loop-node-test.true c.node-item.is
    ∙ ap (λ b. b && is_silent (nodes_of (drop (c.loop-node.node-index + 1) c.args.nodes.now))) (sym c.gives_nothing.ensures ∙ c.if-not-gives_nothing.true))

pub are_silent-loop-node-preserved : goal.are_silent-loop-node-preserved
are_silent-loop-node-preserved t c =
    sym (silent-step c.args.nodes.now c.loop-node.node-index c.node-item.result c.loop-node-test.true c.node-item.is
    ∙ ap (λ b. b && is_silent (nodes_of (drop (c.loop-node.node-index + 1) c.args.nodes.now))) (sym c.gives_nothing.ensures ∙ c.if-not-gives_nothing.false))
    ∙ c.loop-node.invariant
