use Rattle.std.proofs.Common.{◌∙◌, ◌++◌, ap}
use Rattle.std.proofs.lemmas.List.{take_all}
use Rattle.std.specs.List.{flat_map}
use Rattle.target_contents.specs.Faults.{refs_at}
use Rattle.id_table.specs.Model.{asked}
use Rattle.id_table.specs.Tables.{all_located}
use Rattle.target_contents.proofs.ListLaws.{refs-of}
use Rattle.target_contents.proofs.links.add_each.Goals as goal

pub returns : goal.returns
returns c =
    let facts = c.facts-spot-items.result.now in
    c.loop-spot.invariant
    ∙ ap (λ xs. c.args.found.now ++ flat_map (refs_at (asked c.args.index.now)) xs)
    (ap all_located (take_all c.loop-spot.spot-index facts c.loop-spot-test.false) ∙ c.facts-spot-items.ensures.elements)
    ∙ ap (λ xs. c.args.found.now ++ xs) (refs-of (asked c.args.index.now) c.args.index.now.spots)
