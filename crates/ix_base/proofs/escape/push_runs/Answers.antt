use Rattle.std.proofs.Common.{◌++◌, ap, sym, subst, ◌∙◌, get_or, drop, arith}
use Rattle.std.proofs.lemmas.Result.{err_from_is_err_and, on_err_weaker}
use Rattle.ix_base.specs.Escapes.{escaped}
use Rattle.ix_base.specs.Fronts.{AppendsFront}
use Rattle.ix_base.proofs.EscapeLemmas.{front-gains}
use Rattle.ix_base.specs.Manners.{ref_in}
use Rattle.ix_base.proofs.RunLemmas.{ref-low, run-same, run-over, front-run}
use Rattle.ix_base.proofs.escape.push_runs.Goals as goal

pub loop-at-preserved-in_default : goal.loop-at-preserved-in_default
loop-at-preserved-in_default c =
    let at = c.loop-at.at in
    run-same (ref_in c.args.manner) c.args.out.now c.loop-at.out c.args.text.now c.loop-at.from at (get_or c.as_bytes-byte-items.result.now at 0)
    c.loop-at.invariant (omega arith) (ap (λ t. get_or t at 0) c.as_bytes-byte-items.ensures.value) c.in_default.ensures

pub loop-at-preserved : goal.loop-at-preserved
loop-at-preserved c =
    let at = c.loop-at.at in
    run-over (ref_in c.args.manner) (ref-low c.args.manner) c.args.out.now c.loop-at.out c.push.new.self c.push-in-loop-at.new.self c.args.text.now c.in-Some.reference.now c.loop-at.from at
    (get_or c.as_bytes-byte-items.result.now at 0)
    c.loop-at.invariant (omega arith) c.utf8.text (ap (λ t. get_or t at 0) c.as_bytes-byte-items.ensures.value) c.in-Some.ensures
    (c.in_ok-push.ensures.ok ∙ ap (λ x. c.loop-at.out ++ x) c.range.ensures.value) c.in_ok-push-2.ensures.ok

pub returns-in_err-push-clause-err : goal.returns-in_err-push-clause-err
returns-in_err-push-clause-err c =
    let table = ref_in c.args.manner in
    let text = c.args.text.now in
    let gains = front-gains table c.args.out.now c.loop-at.out text (drop c.loop-at.from text) c.loop-at.invariant.front in
    let p = err_from_is_err_and c.from_residual.result c.from_residual.ensures.1 in
    rw (p.1) (subst (AppendsFront (escaped table text) c.args.out.now) (sym c.in_err-push.ensures.err) gains)

pub returns-in_err-push-2-clause-err : goal.returns-in_err-push-2-clause-err
returns-in_err-push-2-clause-err c =
    let table = ref_in c.args.manner in
    let text = c.args.text.now in
    let front = front-run table c.args.out.now c.loop-at.out c.push.new.self text c.loop-at.from c.loop-at.at c.loop-at.invariant (c.in_ok-push.ensures.ok ∙ ap (λ x. c.loop-at.out ++ x) c.range.ensures.value) in
    let gains = front-gains table c.args.out.now c.push.new.self text (drop c.loop-at.at text) front in
    let p = err_from_is_err_and c.from_residual-in_err-push-2.result c.from_residual-in_err-push-2.ensures.1 in
    rw (p.1) (subst (AppendsFront (escaped table text) c.args.out.now) (sym c.in_err-push-2.ensures.err) gains)

pub returns-clause-err : goal.returns-clause-err
returns-clause-err c =
    let table = ref_in c.args.manner in
    let text = c.args.text.now in
    let gains = front-gains table c.args.out.now c.loop-at.out text (drop c.loop-at.from text) c.loop-at.invariant.front in
    on_err_weaker c.push-2.result (λ e. subst (AppendsFront (escaped table text) c.args.out.now) (sym e) gains) c.push-2.ensures.err
