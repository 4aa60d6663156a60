use Rattle.std.proofs.Common.{sym, ◌∙◌, arith}
use Rattle.tr4_dates.specs.Code.{set_named}
use Rattle.tr4_dates.proofs.CodeLemmas.{run_more, run_ended, run_done}
use Rattle.tr4_dates.proofs.run.run_len.Goals as goal

pub loop-len-preserved : goal.loop-len-preserved
loop-len-preserved c =
    let here = run_more (set_named c.args.set) c.args.text.now c.loop-len.len c.loop-len-test.true (sym c.has.ensures ∙ c.if-has.true) in
    (omega arith, omega arith)

pub returns-else-has-clause-exact : goal.returns-else-has-clause-exact
returns-else-has-clause-exact c =
    let here = run_ended (set_named c.args.set) c.args.text.now c.loop-len.len c.loop-len-test.true (sym c.has.ensures ∙ c.if-has.false) in
    omega arith

pub returns-after-loop-len-clause-exact : goal.returns-after-loop-len-clause-exact
returns-after-loop-len-clause-exact c =
    let here = run_done (set_named c.args.set) c.args.text.now c.loop-len.len c.loop-len-test.false in
    omega arith
