use Rattle.std.proofs.Common.{◌≡◌, ◌≢◌, ◌∙◌, ◌+◌, ◌==◌, false, ap, refl, sym, length, arith}
use Rattle.std.proofs.lemmas.Bool.{eqb-false}
use Rattle.page_session.specs.Script.{before}
use Rattle.page_session.proofs.ScriptLaws.{all_said, bad_from, joined_on, next_line, not_ended, said_from}
use Rattle.page_session.proofs.script.parse.Goals as goal

pub returns-in_default : goal.returns-in_default
returns-in_default c =
    bad_from c.loop-start.lines c.loop-start.start c.args.script.now c.if-script-gt-LONGEST_SCRIPT.false c.loop-start-test.true c.loop-start.invariant.said_is
    (not_ended c.loop-start.start c.args.script.now c.loop-start-test.true c.in_default.ensures)

pub returns-in_default-2 : goal.returns-in_default-2
returns-in_default-2 c =
    let n = c.loop-start.start in
    let m = n + c.in-Some.end + 1 in
    let next = next_line n c.in-Some.end m c.args.script.now c.in_ok-line.field-0 c.loop-start-test.true c.in-Some.ensures refl c.in_ok-line.ensures in
    bad_from c.loop-start.lines n c.args.script.now c.if-script-gt-LONGEST_SCRIPT.false c.loop-start-test.true c.loop-start.invariant.said_is
    (next.1 ∙ ap (λ o. before n o (said_from m c.args.script.now)) c.in_default-2.is)

pub loop-start-preserved : goal.loop-start-preserved
loop-start-preserved c =
    let n = c.loop-start.start in
    let m = n + c.in-Some.end + 1 in
    let next = next_line n c.in-Some.end m c.args.script.now c.in_ok-line.field-0 c.loop-start-test.true c.in-Some.ensures refl c.in_ok-line.ensures in
    record {
      within = next.0;
      said_is = joined_on c.loop-start.lines c.push.new.self (record { start = n; line = c.in-Some-2.line }) n m c.args.script.now c.loop-start.invariant.said_is
          (next.1 ∙ ap (λ o. before n o (said_from m c.args.script.now)) c.in-Some-2.is) c.in_ok-push.ensures.ok;
    }

pub returns : goal.returns
returns c =
    let empty : (length c.args.script.now == 0) ≡ false = sym c.is_empty.ensures ∙ c.if-is_empty.false in
    let some : length c.args.script.now ≢ 0 = eqb-false (length c.args.script.now) 0 empty in
    all_said c.loop-start.lines c.loop-start.start c.args.script.now c.if-script-gt-LONGEST_SCRIPT.false (omega arith) c.loop-start-test.false
    c.loop-start.invariant.said_is
