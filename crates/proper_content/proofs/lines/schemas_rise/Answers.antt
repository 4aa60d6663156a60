use Rattle.std.proofs.Common.{◌∙◌, List, ℕ, ap, map}
use Rattle.instance_lines.specs.Canonical.{line, schema_markup}
use Rattle.instance_lines.proofs.Steps.{all_taken}
use Rattle.proper_content.proofs.ListLaws.{lines_rise}
use Rattle.proper_content.proofs.lines.schemas_rise.Goals as goal

pub returns : goal.returns
returns c =
    let f : List ℕ → List ℕ = λ x. line (schema_markup x) in
    let xs = c.args.hrefs.now in
    c.in_ok-answer.ensures
    ∙ lines_rise schema_markup xs _ (c.as_slice.ensures.value ∙ c.loop-href.invariant ∙ ap (map f) (all_taken xs c.loop-href.href-index c.loop-href-test.false))
