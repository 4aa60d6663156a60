use Rattle.std.proofs.Common.{◌∙◌, arith, bytes_eq}
use Rattle.text_map.specs.Places.{any_of, rest_at}
use Rattle.text_map.specs.Tables.{at, kept_at}
use Rattle.text_map.proofs.Placing.{at-none}
use Rattle.text_map.proofs.tables.Tables.take.Goals as goal

pub returns-clause-texts : goal.returns-clause-texts
returns-clause-texts g c = λ q.
    let t = c.args.self.now in
    (λ i. any_of (c.take_classed-classed.ensures.texts q i) (c.take-first.ensures.texts q i) (c.take_in_order-rest.ensures.texts q i))
    ∙ at-none (bytes_eq q c.args.key.text.now) (kept_at t.classes.items q) (at t.first q) (rest_at t.rest q)

pub returns-clause-bounded : goal.returns-clause-bounded
returns-clause-bounded g c = λ b. record { first = (let h = b.first in omega arith); classes = c.take_classed-classed.ensures.small b.classes }
