use Rattle.std.proofs.Common.{rules, ap}
use Rattle.ix_base.specs.declared.tree.Node as node
use Rattle.ix_base.specs.declared.tree.Spot as spots
use Rattle.ix_base.specs.declared.place.Place.{Place}
use Rattle.ix_base.specs.Elements.{path_above}
use Rattle.ix_base.specs.Spots.{elements_up}
use Rattle.ix_base.proofs.SpaceParts.{numbered-child}
use Rattle.id_table.specs.Tables.{elements_above}
use Rattle.id_table.proofs.OnPages.{On-of, below-on, child-at, child-on, next-on, spot-all, spot-on_page}
use Rattle.id_table.proofs.Stepping.{elements-next, elements-passed, elements-whole}
use Rattle.id_table.proofs.tables.Tables.+add_from.Goals as goal

pub add_marked-requires : goal.add_marked-requires
add_marked-requires t c = record {
  whole = c.requires.whole;
  page = spot-on_page c.in_ok-spot.spot.now c.args.element.now (elements_above c.args.up) (ap (λ (p : Place). p.page) c.in_ok-spot.ensures.place)
      c.in_ok-spot.ensures.up c.requires.spaces c.requires.above;
}

pub loop-node-init : goal.loop-node-init
loop-node-init t c = record {
  spots = search (rules, node.the_lemmas, spots.the_lemmas);
  whole = c.in_ok-add_marked.ensures.whole;
  left = below-on c.args.element.now.place.page c.args.element.now c.requires.page;
}

pub add_from-requires : goal.add_from-requires
add_from-requires t c =
    let n = c.args.element.now.place.page in
    let below = c.in-Elem.below in
    let next = next-on n c.args.element.now.children.now c.loop-node.node-index c.node-item.result c.loop-node-test.true c.node-item.is c.loop-node.invariant.left in (
      search (rules, node.the_lemmas, spots.the_lemmas),
      (
        c.loop-node.invariant.whole,
        (
          child-on n below c.node-item.result c.in-Elem.is next.0,
          (
            numbered-child c.args.element.now c.loop-node.node-index c.node-item.result below c.loop-node-test.true c.node-item.is c.in-Elem.is c.requires.spaces,
            On-of n below.now.place.page (elements_up c.in_ok-spot.spot.now) (child-at n below c.node-item.result c.in-Elem.is next.0)
                (spot-all c.in_ok-spot.spot.now c.args.element.now (elements_above c.args.up) c.in_ok-spot.ensures.up c.requires.spaces c.requires.above),
          ),
        ),
      ),
    )

pub loop-node-preserved : goal.loop-node-preserved
loop-node-preserved t c =
    let n = c.args.element.now.place.page in
    let nodes = c.args.element.now.children.now in
    let i = c.loop-node.node-index in
    let node = c.node-item.result in
    let below = c.in-Elem.below in
    let next = next-on n nodes i node c.loop-node-test.true c.node-item.is c.loop-node.invariant.left in
    record {
      spots = elements-next n _ nodes i node below _ _ _ c.loop-node-test.true c.node-item.is c.in-Elem.is (child-at n below node c.in-Elem.is next.0)
          c.in_ok-add_from.ensures.spots c.loop-node.invariant.spots;
      whole = c.in_ok-add_from.ensures.whole;
      left = next.1;
    }

pub loop-node-preserved-in_default : goal.loop-node-preserved-in_default
loop-node-preserved-in_default t c =
    let n = c.args.element.now.place.page in
    let nodes = c.args.element.now.children.now in
    let i = c.loop-node.node-index in
    let node = c.node-item.result in
    let next = next-on n nodes i node c.loop-node-test.true c.node-item.is c.loop-node.invariant.left in
    record {
      spots = elements-passed n _ nodes i node c.in_default.field-0 _ _ c.loop-node-test.true c.node-item.is c.in_default.is c.loop-node.invariant.spots;
      whole = c.loop-node.invariant.whole;
      left = next.1;
    }

pub returns-clause-spots : goal.returns-clause-spots
returns-clause-spots t c =
    elements-whole c.args.element.now.place.page _ _ _ _ _ (path_above c.args.up) c.args.element.now c.loop-node.node-index c.in_ok-add_marked.ensures.spots
    (ap (λ (p : Place). p.page) c.in_ok-spot.ensures.place) c.in_ok-spot.ensures.placed c.loop-node-test.false c.loop-node.invariant.spots
