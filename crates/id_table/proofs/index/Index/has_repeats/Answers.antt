use Rattle.std.proofs.Common.{ap}
use Rattle.id_table.specs.Model.{Held}
use Rattle.id_table.proofs.HeldLaws.{held-apart, held-met}
use Rattle.id_table.proofs.index.Index.has_repeats.Goals as goal

pub returns-clause-apart : goal.returns-clause-apart
returns-clause-apart c = λ none.
    let t = c.self.inside.kept.tables in
    let whole = c.self.invariant.whole in
    held-apart t.ids t.tuples t.spots.items whole.by_id whole.by_tuple_id (whole.apart none) c.args.self.now (ap (λ (h : Held). h.spots) c.self.view_is)

pub returns-clause-met : goal.returns-clause-met
returns-clause-met c = λ some.
    let t = c.self.inside.kept.tables in
    let whole = c.self.invariant.whole in
    held-met t.ids t.tuples t.spots.items whole.by_id whole.by_tuple_id (whole.met some) c.args.self.now (ap (λ (h : Held). h.spots) c.self.view_is)
