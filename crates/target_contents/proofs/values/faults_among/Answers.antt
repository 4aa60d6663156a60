use Rattle.std.proofs.Common.{◌++◌, ◌∷◌, [], List, subst, sym, take}
use Rattle.std.specs.List.{Contains}
use Rattle.ix_base.specs.Asks.{asks}
use Rattle.ix_base.specs.LocatedElements.{Located, base_in, located}
use Rattle.ix_base.specs.declared.breach.Found.{Found}
use Rattle.facts.specs.ItemValue.{IsItem}
use Rattle.id_table.specs.Tables.{all_located}
use Rattle.target_contents.specs.Faults.{AreOfItems, value_fault}
use Rattle.target_contents.proofs.AmongLaws.{located-more, spot-at}
use Rattle.target_contents.proofs.ValueLaws.{value-append, value-one}
use Rattle.target_contents.proofs.values.faults_among.Goals as goal

pub add_value-requires : goal.add_value-requires
add_value-requires c =
    spot-at (λ s. Contains c.args.set.now.elements (located s.now)) c.args.spots.now c.loop-spot.spot-index c.spot-item.result c.requires
    c.loop-spot-test.true c.spot-item.is

pub loop-spot-preserved : goal.loop-spot-preserved
loop-spot-preserved c =
    let Says = IsItem (base_in c.args.set.now.bases) (asks c.args.set.now.elements) in
    let spots = c.args.spots.now in
    let i = c.loop-spot.spot-index in
    let before = all_located (take i spots) in
    let here = located c.spot-item.result.now in
    let more = c.in_ok-add_value.ensures in
    subst (λ (es : List Located). AreOfItems Says es c.add_value.new.found) (sym (located-more spots i c.spot-item.result c.loop-spot-test.true c.spot-item.is))
    (subst (λ (found : List Found). AreOfItems Says (before ++ here ∷ []) found) (sym more.2)
    (value-append Says before (here ∷ []) c.loop-spot.found (value_fault here more.0) c.loop-spot.invariant (value-one Says here more.0 more.1)))
