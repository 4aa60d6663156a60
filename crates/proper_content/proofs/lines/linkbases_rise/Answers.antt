use Rattle.std.proofs.Common.{◌∙◌, List, ℕ, ap, map}
use Rattle.ix_base.specs.declared.content.Linkbase.{Linkbase}
use Rattle.instance_lines.specs.Canonical.{line, linkbase_markup}
use Rattle.instance_lines.proofs.Steps.{all_taken}
use Rattle.proper_content.proofs.ListLaws.{lines_rise}
use Rattle.proper_content.proofs.lines.linkbases_rise.Goals as goal

pub returns : goal.returns
returns c =
    let f : Linkbase → List ℕ = λ x. line (linkbase_markup x) in
    let xs = c.args.linkbases.now in
    c.in_ok-answer.ensures
    ∙ lines_rise linkbase_markup xs _ (c.as_slice.ensures.value ∙ c.loop-linkbase.invariant ∙ ap (map f) (all_taken xs c.loop-linkbase.linkbase-index c.loop-linkbase-test.false))
