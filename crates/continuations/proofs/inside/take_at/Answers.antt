use Rattle.std.proofs.Common.{ap, [], ℕ}
use Rattle.std.specs.Prelude.{Vec, Option}
use Rattle.std.specs.Global.{Global}
use Rattle.std.specs.Option.{option_map_or}
use Rattle.continuations.proofs.inside.take_at.Goals as goal

pub returns-in-Some-clause-others : goal.returns-in-Some-clause-others
returns-in-Some-clause-others c = λ page offset e.
    ap (λ (o : Option (Vec ℕ Global)). option_map_or (λ v. v.items) o []) (c.in-Some.ensures.updates.2 (page, offset) e)
