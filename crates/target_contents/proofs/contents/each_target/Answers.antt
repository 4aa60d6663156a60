use Rattle.std.proofs.Common.{◌∙◌, ◌∷◌, ◌++◌, [], ap, append-nil, take}
use Rattle.std.specs.List.{flat_map}
use Rattle.std.proofs.lemmas.Grind.{flat_map-append}
use Rattle.ix_base.specs.LocatedElements.{located}
use Rattle.id_table.specs.Tables.{all_located}
use Rattle.target_contents.specs.Contents.{targets_at}
use Rattle.target_contents.proofs.AmongLaws.{located-more}
use Rattle.id_table.proofs.GatherLaws.{gathers-more}
use Rattle.target_contents.proofs.contents.each_target.Goals as goal

pub loop-spot-preserved : goal.loop-spot-preserved
loop-spot-preserved c =
    let before = all_located (take c.loop-spot.spot-index c.args.spots.now) in
    let here = located c.spot-item.result.now in
    gathers-more [] _ _ (flat_map targets_at before) (targets_at here) _
    (ap (flat_map targets_at) (located-more c.args.spots.now c.loop-spot.spot-index c.spot-item.result c.loop-spot-test.true c.spot-item.is)
    ∙ flat_map-append targets_at before (here ∷ []) ∙ ap (λ l. flat_map targets_at before ++ l) (append-nil (targets_at here)))
    c.loop-spot.invariant c.in_ok-push_target.ensures
