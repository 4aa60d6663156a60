use Rattle.std.proofs.Common.{◌∙◌, ◌++◌, ap, List, ℕ, refl}
use Rattle.page_verdicts.specs.Verdicts.{verdict_of}
use Rattle.ixds_run.proofs.follow.check.Goals as goal

pub returns : goal.returns
returns c = λ pages stands. (
  c.in_ok-told.told,
  (verdict_of c.in_ok-outcome.outcome, (c.in_ok-outcome.outcome, c.in_ok-outcome.ensures.says pages stands, refl), c.in_ok-told.ensures),
  c.in_ok-push.ensures.ok ∙ ap (λ (t : List ℕ). c.args.text.now ++ t) c.as_str.ensures,
)
