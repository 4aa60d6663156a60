use Rattle.ix_base.specs.declared.tree.Spot.{Spot, roll-Spot}
use Rattle.ix_base.specs.Elements.{path_of, placed}
use Rattle.ix_grammar.proofs.FoundLaws.{found-here, found-next}
use Rattle.ix_grammar.proofs.Staging.{on_refusal, first_refused, later_refused}
use Rattle.ix_grammar.proofs.page.+walk.Goals as goal

pub returns-in_err-check_spot-clause-err : goal.returns-in_err-check_spot-clause-err
returns-in_err-check_spot-clause-err t c =
    on_refusal _ (first_refused _ c.args.breaches.now _ _ _ (found-here c.args.page c.args.element c.args.up) c.in_err-check_spot.ensures.err)

pub returns-in_err-walk-clause-err : goal.returns-in_err-walk-clause-err
returns-in_err-walk-clause-err t c =
    let spot : Spot = roll-Spot (record { element = c.args.element; up = c.args.up }) in
    on_refusal _ (later_refused _ _ c.loop-node.breaches _ _ _ _ c.loop-node.invariant.due c.loop-node.invariant.kept
    (found-next c.args.page (path_of (placed spot)) c.args.element.now.children.now c.loop-node.node-index c.node-item.result c.in-Elem.below c.loop-node-test.true c.node-item.is c.in-Elem.is)
    c.in_err-walk.ensures.err)
