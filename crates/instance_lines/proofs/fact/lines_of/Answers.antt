use Rattle.std.proofs.Common.{◌∙◌, ap, sym, map, take, ◌++◌, ◌∷◌, []}
use Rattle.instance_lines.specs.Elements.{fact_line}
use Rattle.instance_lines.proofs.Steps.{map_taken}
use Rattle.instance_lines.proofs.fact.lines_of.Goals as goal

pub loop-fact-preserved : goal.loop-fact-preserved
loop-fact-preserved c =
    let f = fact_line c.args.prefixes.now in
    let xs = c.args.facts.now in
    let i = c.loop-fact.fact-index in
    c.in_ok-push.ensures.items ∙ ap (λ l. l ++ c.in_ok-line.line ∷ []) c.loop-fact.invariant
    ∙ ap (λ r. map f (take i xs) ++ r ∷ []) c.in_ok-line.ensures ∙ sym (map_taken f xs i c.fact-item.result c.loop-fact-test.true c.fact-item.is)
