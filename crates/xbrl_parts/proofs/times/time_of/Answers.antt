use Rattle.std.proofs.Common.{◌≡◌, ◌∙◌, ◌+◌, ◌-◌, ◌*◌, ap, arith, ℕ, List, length, length-drop, take, drop, Option, Some}
use Rattle.std.proofs.lemmas.List.{take_all}
use Rattle.ix_base.specs.Steps.{◌>>=◌}
use Rattle.ix_base.specs.Times.{clock_or}
use Rattle.xbrl_parts.proofs.times.time_of.Goals as goal

-- the time of a day and a time of day, if there are both
abbrev by_parts : Option ℕ → Option ℕ → Option ℕ
by_parts d s = d >>= λ days. s >>= λ seconds. Some (days * 86400 + seconds)

-- what stands behind a date, up to the text's end
behind : (text : List ℕ) → take (length text - 10) (drop 10 text) ≡ drop 10 text
behind text = take_all (length text - 10) (drop 10 text) (omega (arith, length-drop 10 text))

pub returns-in_err-days-clause-value : goal.returns-in_err-days-clause-value
returns-in_err-days-clause-value c =
    c.from_residual.ensures ∙ ap (λ d. by_parts d (clock_or c.args.alone (drop 10 c.args.text.now))) c.in_err-days.ensures.value

pub returns-in_err-seconds-clause-value : goal.returns-in_err-seconds-clause-value
returns-in_err-seconds-clause-value c =
    c.from_residual-in_err-seconds.ensures ∙ ap (by_parts (Some c.in_ok-days.days)) (c.in_err-seconds.ensures.value ∙ ap (clock_or c.args.alone) (behind c.args.text.now))
    ∙ ap (λ d. by_parts d (clock_or c.args.alone (drop 10 c.args.text.now))) c.in_ok-days.ensures.value

pub returns-clause-value : goal.returns-clause-value
returns-clause-value c =
    ap (by_parts (Some c.in_ok-days.days)) (c.in_ok-seconds.ensures.value ∙ ap (clock_or c.args.alone) (behind c.args.text.now))
    ∙ ap (λ d. by_parts d (clock_or c.args.alone (drop 10 c.args.text.now))) c.in_ok-days.ensures.value

pub returns-clause-small : goal.returns-clause-small
returns-clause-small c = omega (arith, c.in_ok-days.ensures.small, c.in_ok-seconds.ensures.small)
