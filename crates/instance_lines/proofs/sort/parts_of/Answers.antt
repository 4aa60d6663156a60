use Rattle.std.proofs.Common.{◌∙◌, ap, map, ◌++◌}
use Rattle.instance_lines.specs.declared.sort.Keyed.{Keyed}
use Rattle.instance_lines.proofs.sort.parts_of.Goals as goal

pub returns-clause-keys : goal.returns-clause-keys
returns-clause-keys g c =
    c.in_ok-push_parts.ensures.keys ∙ ap (λ l. l ++ map (λ (k : Keyed g.row.T.Denot). k.key) c.args.keyed.items) c.in_ok-keys.ensures.items

pub returns-clause-items : goal.returns-clause-items
returns-clause-items g c =
    c.in_ok-push_parts.ensures.items ∙ ap (λ l. l ++ map (λ (k : Keyed g.row.T.Denot). k.item) c.args.keyed.items) c.in_ok-items.ensures.items
