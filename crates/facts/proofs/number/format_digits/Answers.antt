use Rattle.std.proofs.Common.{ap, sym, Err, Some}
use Rattle.ix_base.specs.Trees.{named}
use Rattle.facts.specs.NumberValue.{IsDigits}
use Rattle.facts.proofs.ItemLaws.{by_fault}
use Rattle.facts.proofs.number.format_digits.Goals as goal

pub returns-in_default : goal.returns-in_default
returns-in_default c = c.in_default.ensures.none

pub returns-in_err-digits : goal.returns-in_err-digits
returns-in_err-digits c =
    by_fault (IsDigits (Some (named c.args.name)) c.args.text.now) c.from_residual.result _ c.from_residual.ensures.1
    (λ e. (c.in-Some.format, c.in-Some.ensures.found, c.in_err-digits.ensures.err (ap Err e)))

pub returns-then-not-gives_number : goal.returns-then-not-gives_number
returns-then-not-gives_number c =
    (c.in-Some.format, c.in-Some.ensures.found, (c.in_ok-digits.digits, c.in_ok-digits.ensures.ok), sym c.if-not-gives_number.ensures)

pub returns : goal.returns
returns c = (c.in-Some.format, c.in-Some.ensures.found, c.in_ok-digits.ensures.ok, sym c.if-not-gives_number.ensures)
