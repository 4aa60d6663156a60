use Rattle.std.proofs.Common.{◌≡◌, ◌∙◌, ap, arith, sym, ℕ, pos, cond, Option, Some, None, to_z, w64}
use Rattle.std.proofs.lemmas.Bool.{le-ltb, lt-ltb}
use Rattle.std.proofs.lemmas.Int.{to_z_pos}
use Rattle.std.specs.Prelude.{nat_lt}
use Rattle.ix_base.specs.Steps.{◌>>=◌}
use Rattle.ix_base.specs.Times.{end_time, start_time}
use Rattle.ix_base.specs.Token.{token_of}
use Rattle.ix_base.specs.declared.content.Period.{Period}
use Rattle.ix_base.specs.declared.content.Period.TheVariants.{Duration}
use Rattle.xbrl_parts.proofs.period.between.Goals as goal

pub overflow_cast-result : goal.overflow_cast-result
overflow_cast-result c = omega (arith, c.in_ok-start.ensures.small)

pub overflow_cast-result-then-start-end : goal.overflow_cast-result-then-start-end
overflow_cast-result-then-start-end c = omega (arith, c.in_ok-end.ensures.small)

-- the duration between two moments, if there are both
abbrev by_times : Option ℕ → Option ℕ → Option Period
by_times s e = s >>= λ start. e >>= λ end. cond (nat_lt start end) (Some (Duration (pos start) (pos end))) None

pub returns-in_err-start : goal.returns-in_err-start
returns-in_err-start c =
    c.from_residual.ensures
    ∙ ap (λ s. by_times s (end_time (token_of c.args.end.now))) (c.in_err-start.ensures.value ∙ ap start_time c.token.ensures)

pub returns-in_err-end : goal.returns-in_err-end
returns-in_err-end c =
    c.from_residual-in_err-end.ensures
    ∙ ap (by_times (Some c.in_ok-start.start)) (c.in_err-end.ensures.value ∙ ap end_time c.token-2.ensures)
    ∙ ap (λ s. by_times s (end_time (token_of c.args.end.now))) (c.in_ok-start.ensures.value ∙ ap start_time c.token.ensures)

pub returns-then-start-end : goal.returns-then-start-end
returns-then-start-end c =
    let start : to_z w64 c.in_ok-start.start ≡ pos c.in_ok-start.start = to_z_pos w64 c.in_ok-start.start (omega (arith, c.in_ok-start.ensures.small)) in
    let end : to_z w64 c.in_ok-end.end ≡ pos c.in_ok-end.end = to_z_pos w64 c.in_ok-end.end (omega (arith, c.in_ok-end.ensures.small)) in
    (λ i. Some (Duration (start i) (end i)))
    ∙ ap (λ b. cond b (Some (Duration (pos c.in_ok-start.start) (pos c.in_ok-end.end))) None) (sym (lt-ltb c.in_ok-start.start c.in_ok-end.end c.if-start-end.true))
    ∙ ap (by_times (Some c.in_ok-start.start)) (c.in_ok-end.ensures.value ∙ ap end_time c.token-2.ensures)
    ∙ ap (λ s. by_times s (end_time (token_of c.args.end.now))) (c.in_ok-start.ensures.value ∙ ap start_time c.token.ensures)

pub returns-else-start-end : goal.returns-else-start-end
returns-else-start-end c =
    ap (λ b. cond b (Some (Duration (pos c.in_ok-start.start) (pos c.in_ok-end.end))) None) (sym (le-ltb c.in_ok-start.start c.in_ok-end.end c.if-start-end.false))
    ∙ ap (by_times (Some c.in_ok-start.start)) (c.in_ok-end.ensures.value ∙ ap end_time c.token-2.ensures)
    ∙ ap (λ s. by_times s (end_time (token_of c.args.end.now))) (c.in_ok-start.ensures.value ∙ ap start_time c.token.ensures)
