use Rattle.std.proofs.Common.{ℕ, List, ◌∷◌, [], subst}
use Rattle.std.proofs.lemmas.Result.{err_from_is_err_and, on_ok_weaker, on_err_weaker}
use Rattle.std.specs.List.{concat}
use Rattle.page_verdicts.specs.Gains.{GainsAll, GainsCut}
use Rattle.ixds_run.proofs.TargetLaws.{finished_with, write_failed, written, finish_done, finish_failed}
use Rattle.ixds_run.proofs.deliver.put_target.Goals as goal

pub returns-in_err-write-clause-err : goal.returns-in_err-write-clause-err
returns-in_err-write-clause-err g c =
    let p = err_from_is_err_and c.from_residual-in_err-write.result c.from_residual-in_err-write.ensures.1 in
    let text = concat c.args.target.now.prepared in
    rw (p.1) (subst (λ (n : List ℕ). GainsCut (finished_with c.args.dir.now n text) (g.S.TargetSink.targets c.args.sink.now) (g.S.TargetSink.targets c.write.new.sink)) c.as_str.ensures
    (write_failed c.args.dir.now c.as_str.result.now text _ _ _ c.in_ok-begin.ensures.ok c.in_err-write.ensures.err.0))

pub returns-clause-ok : goal.returns-clause-ok
returns-clause-ok g c =
    let text = concat c.args.target.now.prepared in
    let w = written c.args.dir.now c.as_str.result.now text _ _ _ c.in_ok-begin.ensures.ok c.in_ok-write.ensures.ok in
    on_ok_weaker c.finish.result (λ e. subst (λ (n : List ℕ). GainsAll (finished_with c.args.dir.now n text ∷ []) (g.S.TargetSink.targets c.args.sink.now) (g.S.TargetSink.targets c.finish.new.self)) c.as_str.ensures
    (finish_done c.args.dir.now c.as_str.result.now text _ _ _ w e)) c.finish.ensures.ok

pub returns-clause-err : goal.returns-clause-err
returns-clause-err g c =
    let text = concat c.args.target.now.prepared in
    let w = written c.args.dir.now c.as_str.result.now text _ _ _ c.in_ok-begin.ensures.ok c.in_ok-write.ensures.ok in
    on_err_weaker c.finish.result (λ e. subst (λ (n : List ℕ). GainsCut (finished_with c.args.dir.now n text) (g.S.TargetSink.targets c.args.sink.now) (g.S.TargetSink.targets c.finish.new.self)) c.as_str.ensures
    (finish_failed c.args.dir.now c.as_str.result.now text _ _ _ w e)) c.finish.ensures.err
