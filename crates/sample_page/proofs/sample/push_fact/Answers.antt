use Rattle.std.proofs.Common.{◌∙◌, ◌++◌, ap}
use Rattle.sample_page.specs.Sample.{fact_text}
use Rattle.sample_page.proofs.sample.push_fact.Goals as goal

pub returns : goal.returns
unfolding fact_text
returns c = c.in_ok-extend_from_slice.ensures.items ∙ ap (λ t. c.args.text.now.items ++ t) (c.as_bytes.ensures.value ∙ c.in_ok-fact.ensures.ok)
