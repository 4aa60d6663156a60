use Rattle.std.proofs.Common.{◌∙◌, ap, sym, ◌++◌, [], ◌∷◌, take, arith}
use Rattle.std.proofs.lemmas.List.{map-append, take_more}
use Rattle.instance_lines.specs.Tables.{values_of}
use Rattle.instance_lines.proofs.Steps.{all_taken}
use Rattle.instance_lines.proofs.sort.views_of.Goals as goal

pub loop-text-preserved : goal.loop-text-preserved
loop-text-preserved c =
    let xs = c.args.texts.now in
    let i = c.loop-text.text-index in
    ap values_of c.in_ok-push.ensures.items ∙ map-append (λ x. x.now) c.loop-text.views.items (c.as_str.result ∷ [])
    ∙ ap (λ l. l ++ c.as_str.result.now ∷ []) c.loop-text.invariant
    ∙ ap (λ z. take i xs ++ z ∷ []) (c.as_str.ensures ∙ c.text-item.is) ∙ sym (take_more xs i c.text-item.result c.loop-text-test.true)

pub returns : goal.returns
returns c = c.loop-text.invariant ∙ all_taken c.args.texts.now c.loop-text.text-index (omega arith)
