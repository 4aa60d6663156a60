use Rattle.std.proofs.Common.{◌∙◌, ap, map}
use Rattle.std.specs.Cmp.Lexicographic.{on_texts}
use Rattle.std.proofs.lemmas.Result.{IfOk-weaker}
use Rattle.instance_lines.specs.Keys.{by_key, lasts}
use Rattle.instance_lines.specs.declared.sort.Keyed.{Keyed}
use Rattle.instance_lines.proofs.LastLaws.{lasts-sorted}
use Rattle.instance_lines.proofs.sort.once_by_keys.Goals as goal

pub returns : goal.returns
returns g c =
    IfOk-weaker c.items_of.result _ _
    (λ v e. e ∙ ap (map (λ (k : Keyed g.row.T.Denot). k.item))
    (c.in_ok-kept.ensures ∙ ap (lasts by_key) c.in_ok-sort_keyed.ensures
    ∙ lasts-sorted (on_texts (λ (x : Keyed g.row.T.Denot). x.key)) c.args.keyed.items))
    c.items_of.ensures
