use Rattle.std.proofs.Common.{◌∙◌, ◌++◌, ap}
use Rattle.std.proofs.lemmas.List.{take_all}
use Rattle.std.specs.List.{flat_map}
use Rattle.ix_base.specs.declared.rule.Rule.TheVariants.{L14}
use Rattle.ix_base.specs.LinkRules.{broken_at}
use Rattle.id_table.specs.Model.{asked}
use Rattle.id_table.specs.Tables.{all_located}
use Rattle.target_contents.proofs.ListLaws.{schemaless-of}
use Rattle.target_contents.proofs.links.add_schemaless.Goals as goal

pub returns : goal.returns
returns c =
    let facts = c.facts-spot-items.result.now in
    c.loop-spot.invariant
    ∙ ap (λ xs. c.args.found.now ++ flat_map (broken_at (asked c.args.index.now) L14) xs)
    (ap all_located (take_all c.loop-spot.spot-index facts c.loop-spot-test.false) ∙ c.facts-spot-items.ensures.elements)
    ∙ ap (λ xs. c.args.found.now ++ xs) (schemaless-of (asked c.args.index.now) c.args.index.now.spots)
