use Rattle.std.proofs.Common.{ap, Err}
use Rattle.ix_base.specs.Trees.{named}
use Rattle.facts.specs.TextValue.{IsTransformed}
use Rattle.facts.proofs.ItemLaws.{by_fault}
use Rattle.facts.proofs.format.text_in.Goals as goal

pub returns-in_default : goal.returns-in_default
returns-in_default c = c.in_default.ensures.none

pub returns-in_err-transformed : goal.returns-in_err-transformed
returns-in_err-transformed c =
    by_fault (IsTransformed (named c.args.name) c.args.text.now) c.from_residual.result _ c.from_residual.ensures.1
    (λ e. (c.in-Some.format, c.in-Some.ensures.found, c.in_err-transformed.ensures.err (ap Err e)))

pub returns : goal.returns
returns c = (c.in-Some.format, c.in-Some.ensures.found, c.in_ok-transformed.ensures.ok)
