use Rattle.std.proofs.Common.{◌∙◌, All, Contains, List, subst}
use Rattle.std.proofs.lemmas.List.Elements.{All-contains_itself}
use Rattle.ix_base.specs.LocatedElements.{Located}
use Rattle.id_table.specs.Tables.{all_located}
use Rattle.fact_trace.proofs.tracer.traced_all.Goals as goal

pub traced_items-requires-clause-there : goal.traced_items-requires-clause-there
traced_items-requires-clause-there c =
    subst (λ (xs : List Located). All (Contains xs) (all_located c.spots.result.now)) (c.spots.ensures.elements ∙ c.requires.spots)
    (All-contains_itself (all_located c.spots.result.now))
