use Rattle.std.proofs.Common.{◌∙◌, ap}
use Rattle.instance_lines.specs.Keys.{keyed_by}
use Rattle.instance_lines.proofs.Sorting.{by_keys_of}
use Rattle.instance_lines.proofs.sort.put_by_keys.Goals as goal

pub returns : goal.returns
returns g c =
    c.of.ensures ∙ c.in_ok-ordered.ensures
    ∙ by_keys_of g.K.KeyOf.key c.args.items.now c.in_ok-keyed.keyed.items
    (c.in_ok-keyed.ensures ∙ ap (keyed_by g.K.KeyOf.key) c.replace-taken.ensures.value)
