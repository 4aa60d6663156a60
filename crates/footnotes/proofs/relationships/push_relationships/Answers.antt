use Rattle.std.proofs.Common.{◌∙◌, ◌++◌, ap, List}
use Rattle.std.proofs.lemmas.List.{take_all}
use Rattle.std.specs.List.{filter}
use Rattle.std.specs.Borrow.{Bor}
use Rattle.ix_base.specs.declared.tree.Spot.{Spot}
use Rattle.ix_base.specs.LinkRules.{is_relationship}
use Rattle.id_table.specs.Tables.{all_located}
use Rattle.id_table.proofs.SortedKinds.{relationships-of}
use Rattle.footnotes.specs.NamedEnds.{all_seen}
use Rattle.footnotes.proofs.LinkLaws.{relationships-join, step-from}
use Rattle.footnotes.proofs.relationships.push_relationships.Goals as goal

pub returns-clause-seen : goal.returns-clause-seen
returns-clause-seen c =
    let others = c.others-spot-items.result.now in
    c.loop-spot.invariant.seen
    ∙ ap (λ l. all_seen c.args.relationships.now.items ++ l)
    (ap (filter is_relationship) (ap all_located (take_all c.loop-spot.spot-index others c.loop-spot-test.false) ∙ c.others-spot-items.ensures.elements)
    ∙ relationships-of c.args.index.now.spots)

pub loop-spot-preserved : goal.loop-spot-preserved
loop-spot-preserved c = record {
  seen = step-from (λ (ss : List (Bor Spot)). filter is_relationship (all_located ss)) relationships-join c.others-spot-items.result.now c.loop-spot.spot-index
      c.spot-item.result c.loop-spot-test.true c.spot-item.is _ _ _ c.loop-spot.invariant.seen c.in_ok-push_if_relationship.ensures.seen;
  known = c.in_ok-push_if_relationship.ensures.known;
}
