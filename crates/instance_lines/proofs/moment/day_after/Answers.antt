use Rattle.std.proofs.Common.{◌≡◌, ◌∙◌, ap, ◌+ℤ◌, pos, to_z, w64, sym, FitsSigned, arith, true≢false}
use Rattle.std.proofs.lemmas.Int.{to_z-of_z}
use Rattle.jiff.specs.Words.{epoch_day, IsEpochDay}
use Rattle.jiff.proofs.SpanFacts.{signed_arith, date_add-days, can_add-days}
use Rattle.instance_lines.proofs.FirstDay.{first_day_number}
use Rattle.instance_lines.proofs.moment.day_after.Goals as goal

pub returns-in-Ok : goal.returns-in-Ok
returns-in-Ok c =
    let first = first_day_number c.first_day-first.result c.first_day-first.ensures in
    let wide : FitsSigned w64 (pos c.args.days) = omega (arith, signed_arith) in
    let same : to_z w64 c.args.days ≡ pos c.args.days = to_z-of_z w64 (pos c.args.days) wide in
    let only = rw same at c.days.ensures in
    c.in-Ok.ensures.value ∙ date_add-days c.first_day-first.result (pos c.args.days) c.days.result only
    ∙ ap (λ z. z +ℤ pos c.args.days) first

pub returns-in-Err : goal.returns-in-Err
returns-in-Err c =
    let first = first_day_number c.first_day-first.result c.first_day-first.ensures in
    let wide : FitsSigned w64 (pos c.args.days) = omega (arith, signed_arith) in
    let same : to_z w64 c.args.days ≡ pos c.args.days = to_z-of_z w64 (pos c.args.days) wide in
    let only = rw same at c.days.ensures in
    let can = can_add-days c.first_day-first.result (pos c.args.days) c.days.result only in
    let day : IsEpochDay (epoch_day c.first_day-first.result +ℤ pos c.args.days) = rw first (omega (arith, signed_arith)) in
    absurd (true≢false (sym (c.in-Err.ensures.succeeds.1 (can.1 day))))
