use Rattle.std.proofs.Common.{◌∙◌, ap, sym}
use Rattle.std.proofs.lemmas.Result.{IfOk-weaker}
use Rattle.page_verdicts.specs.Texts.{sample_text}
use Rattle.ixds_run.specs.DueOutcomes.{default_len, text_of}
use Rattle.ixds_run.proofs.due.text_of.Goals as goal

pub returns-in-None : goal.returns-in-None
returns-in-None c ts told ready = told ∙ ap (λ n. text_of n ts) (sym c.in-None.is)

pub returns-in-Some : goal.returns-in-Some
returns-in-Some c ts told ready =
    IfOk-weaker c.sample_text.result _ _
    (λ t e. e ∙ (λ i. sample_text c.in-Some.number ((c.as_str.ensures ∙ told) i) ((c.default_len-len.ensures ∙ ap default_len ready) i))
    ∙ ap (λ n. text_of n ts) (sym c.in-Some.is))
    c.sample_text.ensures
