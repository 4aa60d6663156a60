use Rattle.std.proofs.Common.{◌∙◌, ◌++◌, ap, sym}
use Rattle.std.proofs.lemmas.List.{take_all}
use Rattle.std.specs.List.{flat_map}
use Rattle.footnotes.proofs.GroupLaws.{all-arcs, more-arcs, relationship_arcs}
use Rattle.footnotes.proofs.arcs.groups_of.Goals as goal

pub loop-relationship-preserved : goal.loop-relationship-preserved
loop-relationship-preserved c = λ q.
    c.in_ok-enter_relationship.ensures q ∙ ap (λ l. l ++ relationship_arcs q c.relationship-item.result) (c.loop-relationship.invariant q)
    ∙ sym (more-arcs q c.args.relationships.now c.loop-relationship.relationship-index c.relationship-item.result c.loop-relationship-test.true c.relationship-item.is)

pub returns : goal.returns
returns c = λ q.
    c.loop-relationship.invariant q
    ∙ ap (flat_map (relationship_arcs q)) (take_all c.loop-relationship.relationship-index c.args.relationships.now c.loop-relationship-test.false)
    ∙ all-arcs c.args.index.now.spots q c.args.relationships.now c.requires.seen c.requires.known
