use Rattle.std.proofs.Common.{◌≡◌, ◌∙◌, sym, refl, get_or, length, ◌<◌, arith, rules}
use Rattle.std.proofs.lemmas.Result.{err_from_is_err_and}
use Rattle.instance_lines.proofs.Grown.{grown_none, grown_next, front_grown}
use Rattle.instance_lines.proofs.put_lines.Goals as goal

pub loop-line-init : goal.loop-line-init
loop-line-init g c = record { faults = refl; is_open = c.requires.opened; targets = sym (grown_none _); asked = refl; asked_len = refl; numbers = refl }

pub returns-in_err-put-clause-err : goal.returns-in_err-put-clause-err
returns-in_err-put-clause-err g c =
    let p = err_from_is_err_and c.from_residual.result c.from_residual.ensures.1 in
    let lines = c.args.lines.now in
    let i = c.loop-line.line-index in
    let d = c.line-item.result in
    let piece : c.as_bytes.result.now ≡ get_or lines i d = c.as_bytes.ensures.value ∙ c.as_str.ensures ∙ c.line-item.is in
    let below : i < length lines = omega arith in
    let gains = c.in_err-put.ensures.err in
    let was = c.loop-line.invariant.targets in
    rw (p.1) (
      front_grown lines i d (g.S.TargetSink.targets c.args.sink.now) (g.S.TargetSink.targets c.put.new.self) below (gains.0, gains.1 ∙ rw (piece, was) refl),
      search rules,
    )

pub loop-line-preserved : goal.loop-line-preserved
loop-line-preserved g c =
    let lines = c.args.lines.now in
    let i = c.loop-line.line-index in
    let d = c.line-item.result in
    let piece : c.as_bytes.result.now ≡ get_or lines i d = c.as_bytes.ensures.value ∙ c.as_str.ensures ∙ c.line-item.is in
    let below : i < length lines = omega arith in
    let targets = g.S.TargetSink.targets in
    let put = c.in_ok-put.ensures in
    let inv = c.loop-line.invariant in
    record {
      faults = put.counted.cause.ok ∙ inv.faults;
      is_open = put.opened;
      targets = grown_next lines i d c.as_bytes.result.now (targets c.args.sink.now) (targets c.loop-line.sink) (targets c.put.new.self) below piece inv.targets put.ok;
      asked = put.asked ∙ inv.asked;
      asked_len = put.asked_len ∙ inv.asked_len;
      numbers = put.counted.numbers ∙ inv.numbers;
    }
