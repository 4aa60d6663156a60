use Rattle.std.proofs.Common.{◌∙◌, ap, [], ℕ}
use Rattle.std.specs.Prelude.{Vec, Option, ◌&&◌, ◌==◌}
use Rattle.std.specs.Global.{Global}
use Rattle.std.specs.Option.{option_map_or}
use Rattle.indexmap.specs.IndexMap.{get_by}
use Rattle.id_table.specs.Slices.{is_key}
use Rattle.continuations.proofs.Inner.{items-cond}
use Rattle.continuations.proofs.inside.put_at.Goals as goal

pub returns : goal.returns
returns c = λ page offset.
    ap (λ (o : Option (Vec ℕ Global)). option_map_or (λ v. v.items) o []) (c.in_ok-insert.ensures.updates.0 (page, offset))
    ∙ items-cond ((c.args.key.0 == page) && (c.args.key.1 == offset)) c.args.here (get_by (is_key page offset) c.args.numbers.now)
