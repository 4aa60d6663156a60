use Rattle.std.proofs.Common.{◌∙◌, ◌++◌, ap, sym, None, Some}
use Rattle.std.proofs.lemmas.Bool.Decides.{Decides-eqb}
use Rattle.std.proofs.lemmas.Slice.Eq.{strip_prefix_is}
use Rattle.instance_out.proofs.ByteLaws.{not-taken, taken-off}
use Rattle.instance_out.proofs.are_bytes.Goals as goal

pub returns-in_default : goal.returns-in_default
returns-in_default c =
    let line = c.as_bytes.ensures.value ∙ c.as_str.ensures in
    sym (not-taken _ _ c.line-item.result c.loop-line.left.now c.loop-line-test.true c.line-item.is
    (λ rest e. strip_prefix_is Decides-eqb c.loop-line.left.now c.as_bytes.result.now None c.in_default.ensures.cases rest
    (e ∙ ap (λ l. l ++ rest) (sym line)))) ∙ c.loop-line.invariant

pub loop-line-preserved : goal.loop-line-preserved
loop-line-preserved c =
    let line = c.as_bytes.ensures.value ∙ c.as_str.ensures in
    taken-off _ _ c.line-item.result c.loop-line.left.now c.in-Some.rest.now c.loop-line-test.true c.line-item.is
    (strip_prefix_is Decides-eqb c.loop-line.left.now c.as_bytes.result.now (Some c.in-Some.rest) c.in-Some.ensures.cases
    ∙ ap (λ l. l ++ c.in-Some.rest.now) line)
    ∙ c.loop-line.invariant
