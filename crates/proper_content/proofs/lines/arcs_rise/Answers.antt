use Rattle.std.proofs.Common.{◌∙◌, ◌++◌, ◌∷◌, [], ap, map, sym, take}
use Rattle.instance_lines.specs.Elements.{arc_text}
use Rattle.instance_lines.proofs.Steps.{all_taken, map_taken}
use Rattle.proper_content.proofs.ListLaws.{texts_rise}
use Rattle.proper_content.proofs.lines.arcs_rise.Goals as goal

pub loop-arc-preserved : goal.loop-arc-preserved
loop-arc-preserved c =
    let xs = c.args.arcs.now in
    let i = c.loop-arc.arc-index in
    c.in_ok-push.ensures.items ∙ ap (λ l. l ++ c.in_ok-text.text ∷ []) c.loop-arc.invariant
    ∙ ap (λ r. map arc_text (take i xs) ++ r ∷ []) c.in_ok-text.ensures ∙ sym (map_taken arc_text xs i c.arc-item.result c.loop-arc-test.true c.arc-item.is)

pub returns : goal.returns
returns c =
    let xs = c.args.arcs.now in
    c.in_ok-answer.ensures
    ∙ texts_rise arc_text xs _ (c.as_slice.ensures.value ∙ c.loop-arc.invariant ∙ ap (map arc_text) (all_taken xs c.loop-arc.arc-index c.loop-arc-test.false))
