use Rattle.std.proofs.Common.{◌≡◌, ◌∙◌, ap, ◌<◌, suc, length, take, get_or, add-one, arith, length-append, ◌++◌}
use Rattle.std.specs.List.{concat}
use Rattle.instance_lines.proofs.Grown.{concat_next}
use Rattle.instance_out.proofs.total_len.Goals as goal

pub loop-line-preserved : goal.loop-line-preserved
loop-line-preserved c =
    let lines = c.args.lines.now in
    let i = c.loop-line.line-index in
    let d = c.line-item.result in
    let below : i < length lines = omega arith in
    let next : concat (take (suc i) lines) ≡ concat (take i lines) ++ get_or lines i d = concat_next lines i d below in
    let piece = ap length (c.as_str.ensures ∙ c.line-item.is) in
    let sum = length-append (concat (take i lines)) (get_or lines i d) in
    let whole = ap length next in
    rw add-one (omega (arith, c.in_ok-total.ensures.1, c.loop-line.invariant, piece, sum, whole))
