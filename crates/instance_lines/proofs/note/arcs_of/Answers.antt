use Rattle.std.proofs.Common.{◌∙◌, ap, sym, map, take, ◌++◌, ◌∷◌, []}
use Rattle.instance_lines.specs.Elements.{arc_text}
use Rattle.instance_lines.proofs.Steps.{map_taken}
use Rattle.instance_lines.proofs.note.arcs_of.Goals as goal

pub loop-arc-preserved : goal.loop-arc-preserved
loop-arc-preserved c =
    let xs = c.args.arcs.now in
    let i = c.loop-arc.arc-index in
    c.in_ok-push.ensures.items ∙ ap (λ l. l ++ c.in_ok-text.text ∷ []) c.loop-arc.invariant
    ∙ ap (λ r. map arc_text (take i xs) ++ r ∷ []) c.in_ok-text.ensures ∙ sym (map_taken arc_text xs i c.arc-item.result c.loop-arc-test.true c.arc-item.is)
