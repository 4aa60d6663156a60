use Rattle.std.proofs.Common.{◌∙◌, ap, cond, Some}
use Rattle.std.specs.Ordering.{nat_cmp}
use Rattle.std.specs.Cmp.Lexicographic.{slice_cmp}
use Rattle.std.specs.BTreeMap.{get_by}
use Rattle.std.proofs.lemmas.Map.Text.{btree_map_updates_str}
use Rattle.instance_lines.proofs.PrefixLaws.{bytes_eq-sym}
use Rattle.instance_lines.proofs.prefix.put.Goals as goal

pub returns-in-Ok : goal.returns-in-Ok
returns-in-Ok c q =
    btree_map_updates_str c.args.space.now c.args.table.now c.insert.new.self _ c.in-Ok.ensures.updates q
    ∙ ap (λ b. cond b (Some c.args.prefix) (get_by (λ k. slice_cmp nat_cmp q k.now) c.args.table.now)) (bytes_eq-sym c.args.space.now q)
