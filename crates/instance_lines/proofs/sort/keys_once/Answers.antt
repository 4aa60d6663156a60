use Rattle.std.proofs.Common.{◌∙◌, ap, sym, ◌++◌, [], ◌∷◌, map, take, arith}
use Rattle.std.proofs.lemmas.Result.{IfOk-weaker}
use Rattle.ix_base.specs.Once.{in_order}
use Rattle.ix_base.specs.SortedLists.{text_cmp}
use Rattle.instance_lines.proofs.Steps.{all_taken, map_taken}
use Rattle.instance_lines.proofs.sort.keys_once.Goals as goal

pub loop-item-preserved : goal.loop-item-preserved
loop-item-preserved g c =
    c.in_ok-push.ensures.items ∙ ap (λ l. l ++ c.in_ok-key.key ∷ []) c.loop-item.invariant
    ∙ ap (λ k. map g.K.KeyOf.key (take c.loop-item.item-index c.args.items.now) ++ k ∷ []) c.in_ok-key.ensures
    ∙ sym (map_taken g.K.KeyOf.key c.args.items.now c.loop-item.item-index c.item-item.result c.loop-item-test.true c.item-item.is)

pub returns : goal.returns
returns g c =
    let all = all_taken c.args.items.now c.loop-item.item-index (omega arith) in
    IfOk-weaker c.once.result _ _
    (λ v e. e ∙ ap (in_order text_cmp) (c.as_slice.ensures.value ∙ c.loop-item.invariant ∙ ap (map g.K.KeyOf.key) all))
    c.once.ensures
